use Rattle.std.proofs.Common.{◌∙◌, [], Ok, Err, subst}
use Rattle.tt_set.specs.Settings.{Gives, IsRefusedFor}
use Rattle.tt_set.specs.declared.settings.SetRefusal.{SetRefusal}
use Rattle.tt_run.proofs.SettingsLemmas.{read_says, says_read, unread_so}
use Rattle.tt_run.proofs.attributes.settings_of.Goals as goal

pub returns-in-Err-clause-says : goal.returns-in-Err-clause-says
returns-in-Err-clause-says g c text told = (unread_so c.in-Err.status text (Err text) c.in-Err.ensures.statuses).0

pub returns-in-Err-clause-only : goal.returns-in-Err-clause-only
returns-in-Err-clause-only g c text said told says = (unread_so c.in-Err.status text said c.in-Err.ensures.statuses).1

pub returns-in-Err-clause-statuses : goal.returns-in-Err-clause-statuses
returns-in-Err-clause-statuses g c = (unread_so c.in-Err.status [] (Err []) c.in-Err.ensures.statuses).2

pub returns-in-Ok-read_settings-clause-says : goal.returns-in-Ok-read_settings-clause-says
returns-in-Ok-read_settings-clause-says g c text told = read_says text c.as_slice.result.now (Ok c.in-Ok-read_settings.settings) (c.as_slice.ensures.value ∙ c.in-Ok.ensures.bytes text told) c.in-Ok-read_settings.ensures.ok

pub returns-in-Ok-read_settings-clause-only : goal.returns-in-Ok-read_settings-clause-only
returns-in-Ok-read_settings-clause-only g c text said told says = c.in-Ok-read_settings.ensures.only said (says_read text c.as_slice.result.now said (c.as_slice.ensures.value ∙ c.in-Ok.ensures.bytes text told) says)

pub returns-in-Err-Bad-clause-says : goal.returns-in-Err-Bad-clause-says
returns-in-Err-Bad-clause-says g c text told = read_says text c.as_slice.result.now (Err c.in-Err-Bad.name) (c.as_slice.ensures.value ∙ c.in-Ok.ensures.bytes text told) (subst (λ (e : SetRefusal). IsRefusedFor c.as_slice.result.now e) c.in-Err-Bad.field-0-is c.in-Err-Bad.ensures.bad)

pub returns-in-Err-Bad-clause-only : goal.returns-in-Err-Bad-clause-only
returns-in-Err-Bad-clause-only g c text said told says = subst (λ (e : SetRefusal). Gives (Err e) said) c.in-Err-Bad.field-0-is (c.in-Err-Bad.ensures.only said (says_read text c.as_slice.result.now said (c.as_slice.ensures.value ∙ c.in-Ok.ensures.bytes text told) says))

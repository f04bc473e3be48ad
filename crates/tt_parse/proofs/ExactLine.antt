-- Each reader is exact for its part of the grammar: the choice of the command, and the line.
use Rattle.std.proofs.Common.{◌≡◌, ℕ, Bool, true, false, not, ◌&&◌, ◌||◌, List, [], ◌∷◌, Some, None, Option, refl, sym, ap, ◌∙◌}
use Rattle.std.specs.Prelude.{codes, if◌then◌else◌}
use Rattle.std.specs.List.{list_all}
use Rattle.std.specs.Str.{bytes_eq}
use Rattle.std.proofs.lemmas.Bool.{and_parts}
use Rattle.tt_parse.specs.declared.command.BackupKind.TheVariants as backups
use Rattle.tt_parse.specs.declared.command.Command.{Command}
use Rattle.tt_parse.specs.declared.command.Command.TheVariants as commands
use Rattle.tt_parse.specs.Grammar.{one, ◌or_else◌}
use Rattle.tt_parse.specs.Reader.{read_if}
use Rattle.tt_parse.proofs.Exact.{Exact, Begins, Follows, Within, never, exact-one, exact-nothing}
use Rattle.tt_parse.proofs.ExactLaws.{Finds, seq, step, alt, begins_one, begins_or, follows_one, follows_nothing, follows_or, follows_then, follows_first, exact-within}
use Rattle.tt_parse.specs.declared.kind.Kind.TheVariants as k
use Rattle.tt_parse.specs.Tokens.{Token, same_kind}
use Rattle.tt_parse.specs.Script as g
use Rattle.tt_parse.specs.Script.{G}
use Rattle.tt_parse.specs.Symbols as symbol
use Rattle.tt_parse.specs.Symbols.{folded, is_word, is_mark, the_word, the_mark, the_backup_kind, the_bare, session_most}
use Rattle.tt_parse.specs.Reading as r
use Rattle.tt_parse.specs.Reading.{has_some}
use Rattle.tt_parse.proofs.Cursors.{kind_same}
use Rattle.tt_parse.proofs.TokenTests.{kind_is, word_kind, word_text, none_within, finds_mark, begins_word, begins_mark, one_of, any_word, has_word, mark_within, fewer_within, mark_not, word_no_words}
use Rattle.tt_parse.proofs.Exactness.{exact-word, exact-mark, exact-name, exact-digits, exact-map, more_filter}
use Rattle.tt_parse.proofs.ExactCommands.{exact-create, exact-drop, exact-insert, exact-update, more_update, exact-delete, exact-select, more_select}

-- ---- backups and readers of changes

pub exact-backup_kind : Exact (one the_backup_kind) r.backup_kind never
unfolding r.backup_kind the_backup_kind is_word same_kind
exact-backup_kind = exact-one the_backup_kind (record { at = 0; kind = k.Word; bytes = codes "filefull" }) backups.Full refl

pub exact-backup : Exact g.backup r.backup never
unfolding g.backup r.backup symbol.is_between symbol.units is_word same_kind
exact-backup =
    step (exact-word (codes "ttbackup") refl) (λ _. step (exact-digits 1 999 refl) (λ set. step exact-backup_kind (λ kind. exact-nothing (commands.Backup set kind))))

pub exact-on_bookmark : (w : List ℕ) (make : List ℕ → Command) → is_word w (record { at = 0; kind = k.Word; bytes = w }) ≡ true →
    Exact (g.on_bookmark w make) (r.on_bookmark w make) never
unfolding g.on_bookmark r.on_bookmark
exact-on_bookmark w make h = step (exact-word w h) (λ _. step exact-name (λ bookmark. exact-nothing (make bookmark)))

pub exact-on_table : (w : List ℕ) (make : List ℕ → List ℕ → Command) → is_word w (record { at = 0; kind = k.Word; bytes = w }) ≡ true →
    Exact (g.on_table w make) (r.on_table w make) never
unfolding g.on_table r.on_table
exact-on_table w make h = step (exact-word w h) (λ _. step exact-name (λ table. step exact-name (λ bookmark. exact-nothing (make table bookmark))))

pub exact-next_update : Exact g.next_update r.next_update never
unfolding g.next_update r.next_update symbol.is_between symbol.units is_word same_kind
exact-next_update = step (exact-word (codes "ttxlanextupdate") refl) (λ _. step (exact-digits 1 1000 refl) (λ count. exact-nothing (commands.XlaNext count)))

-- ---- the choice of one command by its first word

pub record Chosen {A : Type 0} (grammar : G A) (reader : r.R A) (words : List (List ℕ)) (last : Token → Bool) : Type 0 where
  pub exact : Exact grammar reader last
  pub begins : Begins grammar (any_word words)

-- a word that is none of these
words_apart : (w : List ℕ) (words : List (List ℕ)) → has_word w words ≡ false → (s : Token) → any_word words s ≡ true → is_word w s ≡ false
words_apart w words d s h = go (is_word w s) refl where
  go : (b : Bool) → is_word w s ≡ b → is_word w s ≡ false
  go false e = e
  go true e = let other = word_no_words w words d s e in absurd (let p : true ≡ false = sym h ∙ other in cc)

-- where what begins a spelling fails a test
begins_apart : {A : Type 0} (h : G A) (first test last : Token → Bool) → Begins h first → ((s : Token) → first s ≡ true → test s ≡ false) → Follows test h last
begins_apart h first test last begins apart [] y b f e = absurd (let p : false ≡ true = begins [] b f in cc)
begins_apart h first test last begins apart (s ∷ u) y b f e = apart s (begins (s ∷ u) b f)

begins_wider : {A : Type 0} (h : G A) (test wider : Token → Bool) → Begins h test → ((s : Token) → test s ≡ true → wider s ≡ true) → Begins h wider
begins_wider h test wider begins wide [] b f = absurd (let p : false ≡ true = begins [] b f in cc)
begins_wider h test wider begins wide (s ∷ u) b f = wide s (begins (s ∷ u) b f)

or_left : (a b : Bool) → a ≡ true → (a || b) ≡ true
or_left true b h = refl
or_left false b h = absurd cc

or_right : (a b : Bool) → b ≡ true → (a || b) ≡ true
or_right true b h = refl
or_right false b h = h

chosen_last : {A : Type 0} {grammar : G A} {reader : r.R A} {more : Token → Bool} (w : List ℕ) (last : Token → Bool) →
    Exact grammar reader more → Within more last → Begins grammar (is_word w) → Chosen grammar reader (w ∷ []) last
chosen_last {A} {grammar} {reader} {more} w last each within begins = record {
  exact = exact-within more last within each;
  begins = begins_wider grammar (is_word w) (any_word (w ∷ [])) begins (λ s h. or_left (is_word w s) false h);
}

choose : {A : Type 0} {grammar rest : G A} {reader others : r.R A} {more : Token → Bool} {words : List (List ℕ)} {last : Token → Bool} (w : List ℕ) →
    has_word w words ≡ false → Exact grammar reader more → Within more last → Begins grammar (is_word w) → Chosen rest others words last →
    Chosen (grammar or_else rest) (read_if (is_word w) reader others) (w ∷ words) last
choose {A} {grammar} {rest} {reader} {others} {more} {words} {last} w apart each within begins chosen = record {
  exact =
      alt (is_word w) each chosen.exact begins
      (begins_apart rest (any_word words) (is_word w) last chosen.begins (λ s h. words_apart w words apart s h))
      within (λ s h. h);
  begins =
      begins_or grammar rest (any_word (w ∷ words))
      (begins_wider grammar (is_word w) (any_word (w ∷ words)) begins (λ s h. or_left (is_word w s) (any_word words s) h))
      (begins_wider rest (any_word words) (any_word (w ∷ words)) chosen.begins (λ s h. or_right (is_word w s) (any_word words s) h));
}

-- what may go on with a command
abbrev pub more_command : Token → Bool
more_command = one_of (k.Comma ∷ k.Plus ∷ k.Minus ∷ []) (codes "where" ∷ codes "and" ∷ codes "or" ∷ codes "order" ∷ codes "asc" ∷ codes "desc" ∷ [])

abbrev pub utility_words : List (List ℕ)
utility_words =
    codes "ttbackup" ∷ codes "ttxlabookmarkcreate" ∷ codes "ttxlabookmarkdelete" ∷ codes "ttxlasubscribe" ∷ codes "ttxlaunsubscribe"
    ∷ codes "ttxlaopen" ∷ codes "ttxlanextupdate" ∷ []

chosen-utility : Chosen g.utility r.utility utility_words more_command
unfolding g.utility r.utility g.backup g.on_bookmark g.on_table g.next_update is_word same_kind
chosen-utility =
    choose (codes "ttbackup") refl exact-backup (none_within more_command) (begins_word (codes "ttbackup") _)
    (choose (codes "ttxlabookmarkcreate") refl (exact-on_bookmark (codes "ttxlabookmarkcreate") commands.XlaCreate refl) (none_within more_command) (begins_word (codes "ttxlabookmarkcreate") _)
    (choose (codes "ttxlabookmarkdelete") refl (exact-on_bookmark (codes "ttxlabookmarkdelete") commands.XlaDelete refl) (none_within more_command) (begins_word (codes "ttxlabookmarkdelete") _)
    (choose (codes "ttxlasubscribe") refl (exact-on_table (codes "ttxlasubscribe") commands.XlaSubscribe refl) (none_within more_command) (begins_word (codes "ttxlasubscribe") _)
    (choose (codes "ttxlaunsubscribe") refl (exact-on_table (codes "ttxlaunsubscribe") commands.XlaUnsubscribe refl) (none_within more_command) (begins_word (codes "ttxlaunsubscribe") _)
    (choose (codes "ttxlaopen") refl (exact-on_bookmark (codes "ttxlaopen") commands.XlaOpen refl) (none_within more_command) (begins_word (codes "ttxlaopen") _)
    (chosen_last (codes "ttxlanextupdate") more_command exact-next_update (none_within more_command) (begins_word (codes "ttxlanextupdate") _)))))))

update_within : Within more_update more_command
unfolding same_kind
update_within =
    fewer_within (k.Comma ∷ k.Plus ∷ k.Minus ∷ []) (k.Comma ∷ k.Plus ∷ k.Minus ∷ []) (codes "where" ∷ codes "and" ∷ codes "or" ∷ [])
    (codes "where" ∷ codes "and" ∷ codes "or" ∷ codes "order" ∷ codes "asc" ∷ codes "desc" ∷ []) refl refl

filter_within : Within more_filter more_command
unfolding same_kind
filter_within =
    fewer_within [] (k.Comma ∷ k.Plus ∷ k.Minus ∷ []) (codes "where" ∷ codes "and" ∷ codes "or" ∷ [])
    (codes "where" ∷ codes "and" ∷ codes "or" ∷ codes "order" ∷ codes "asc" ∷ codes "desc" ∷ []) refl refl

select_within : Within more_select more_command
unfolding same_kind
select_within =
    fewer_within (k.Comma ∷ []) (k.Comma ∷ k.Plus ∷ k.Minus ∷ []) (codes "where" ∷ codes "and" ∷ codes "or" ∷ codes "order" ∷ codes "asc" ∷ codes "desc" ∷ [])
    (codes "where" ∷ codes "and" ∷ codes "or" ∷ codes "order" ∷ codes "asc" ∷ codes "desc" ∷ []) refl refl

abbrev pub statement_words : List (List ℕ)
statement_words = codes "create" ∷ codes "drop" ∷ codes "insert" ∷ codes "update" ∷ codes "delete" ∷ codes "select" ∷ utility_words

pub chosen-statement : Chosen g.statement r.statement statement_words more_command
unfolding g.statement r.statement g.create g.drop g.insert g.update g.delete g.select
chosen-statement =
    choose (codes "create") refl exact-create (none_within more_command) (begins_word (codes "create") _)
    (choose (codes "drop") refl exact-drop (none_within more_command) (begins_word (codes "drop") _)
    (choose (codes "insert") refl exact-insert (none_within more_command) (begins_word (codes "insert") _)
    (choose (codes "update") refl exact-update update_within (begins_word (codes "update") _)
    (choose (codes "delete") refl exact-delete filter_within (begins_word (codes "delete") _)
    (choose (codes "select") refl exact-select select_within (begins_word (codes "select") _)
    chosen-utility)))))

-- ---- commands of one word

bare_in : Bool → List ℕ → Option Command
bare_in word text =
    if word && bytes_eq text (codes "commit") then Some commands.Commit
    else (if word && bytes_eq text (codes "rollback") then Some commands.Rollback
    else (if word && bytes_eq text (codes "flush") then Some commands.Flush
    else (if word && bytes_eq text (codes "ttdurablecommit") then Some commands.DurableCommit
    else (if word && bytes_eq text (codes "ttckpt") then Some commands.Ckpt
    else (if word && bytes_eq text (codes "ttckptblocking") then Some commands.CkptBlocking
    else (if word && bytes_eq text (codes "ttlogholds") then Some commands.LogHolds
    else (if word && bytes_eq text (codes "ttbookmark") then Some commands.Bookmark
    else (if word && bytes_eq text (codes "ttxlaacknowledge") then Some commands.XlaAcknowledge
    else (if word && bytes_eq text (codes "ttxlaclose") then Some commands.XlaClose
    else None)))))))))

bare_by : (s : Token) → the_bare s ≡ bare_in (same_kind s.kind k.Word) (folded s)
unfolding the_bare is_word bare_in
bare_by s = refl

bare_other : (text : List ℕ) → bare_in false text ≡ None
unfolding bare_in
bare_other text = refl

bare_kind : (s : Token) (command : Command) → the_bare s ≡ Some command → s.kind ≡ k.Word
bare_kind s command h = go (same_kind s.kind k.Word) refl where
  go : (b : Bool) → same_kind s.kind k.Word ≡ b → s.kind ≡ k.Word
  go true e = kind_same s.kind k.Word e
  go false e =
      let p : the_bare s ≡ None = bare_by s ∙ ap (λ (b : Bool). bare_in b (folded s)) e ∙ bare_other (folded s) in
      let q : ◌≡◌ {A = Option Command} None (Some command) = sym p ∙ h in
      absurd cc

bare_word : (w : List ℕ) (s : Token) → is_word w s ≡ true → the_bare s ≡ bare_in true w
unfolding same_kind
bare_word w s h = bare_by s ∙ rw (word_kind w s h, word_text w s h) refl

words_not_bare : (words : List (List ℕ)) → list_all (λ w. not (has_some (bare_in true w))) words ≡ true → (s : Token) → any_word words s ≡ true → r.is_bare s ≡ false
unfolding r.is_bare
words_not_bare [] d s h = absurd cc
words_not_bare (w ∷ words) d s h =
    let parts = and_parts (not (has_some (bare_in true w))) (list_all (λ v. not (has_some (bare_in true v))) words) d in
    go (is_word w s) refl parts.0 (λ among. words_not_bare words parts.1 s among)
  where
    not_true : (b : Bool) → not b ≡ true → b ≡ false
    not_true true e = absurd cc
    not_true false e = refl

    go : (b : Bool) → is_word w s ≡ b → not (has_some (bare_in true w)) ≡ true → (any_word words s ≡ true → has_some (the_bare s) ≡ false) → has_some (the_bare s) ≡ false
    go true e none others = ap (λ (o : Option Command). has_some o) (bare_word w s e) ∙ not_true (has_some (bare_in true w)) none
    go false e none others = others (rw e at h)

bare_some : Finds the_bare r.is_bare true
unfolding r.is_bare
bare_some s command h = ap (λ (o : Option Command). has_some o) h

statement_no_bare : (s : Token) → any_word statement_words s ≡ true → r.is_bare s ≡ false
unfolding bare_in
statement_no_bare s h = words_not_bare statement_words refl s h

exact-bare : Exact (one the_bare) r.bare never
unfolding r.bare the_bare is_word same_kind
exact-bare = exact-one the_bare (record { at = 0; kind = k.Word; bytes = codes "commit" }) commands.Commit refl

pub exact-command : Exact g.command r.command more_command
unfolding g.command r.command
exact-command =
    alt r.is_bare exact-bare chosen-statement.exact
    (begins_one the_bare r.is_bare bare_some)
    (begins_apart g.statement (any_word statement_words) r.is_bare more_command chosen-statement.begins statement_no_bare)
    (none_within more_command) (λ s h. h)

word_any : (words : List (List ℕ)) (s : Token) → any_word words s ≡ true → is_mark k.Word s ≡ true
unfolding is_mark
word_any [] s h = absurd cc
word_any (w ∷ words) s h = go (is_word w s) refl (λ among. word_any words s among) where
  go : (b : Bool) → is_word w s ≡ b → (any_word words s ≡ true → same_kind s.kind k.Word ≡ true) → same_kind s.kind k.Word ≡ true
  go true e others = kind_is s.kind k.Word (word_kind w s e)
  go false e others = others (rw e at h)

pub begins-command : Begins g.command (is_mark k.Word)
unfolding g.command is_mark
begins-command =
    begins_or (one the_bare) g.statement (is_mark k.Word)
    (begins_one the_bare (is_mark k.Word) (λ s command h. kind_is s.kind k.Word (bare_kind s command h)))
    (begins_wider g.statement (any_word statement_words) (is_mark k.Word) chosen-statement.begins (λ s h. word_any statement_words s h))

-- ---- a line

pub exact-prefix : Exact g.prefix r.prefix never
unfolding g.prefix r.prefix symbol.is_between symbol.units
exact-prefix = step (exact-mark k.At) (λ _. exact-digits 1 session_most refl)

pub exact-session : Exact g.session r.session (is_mark k.At)
unfolding g.session r.session g.prefix
exact-session =
    alt (is_mark k.At) exact-prefix (exact-nothing 1)
    (begins_mark k.At _) (follows_nothing 1 (is_mark k.At) (is_mark k.At) (λ s h. h)) (none_within (is_mark k.At)) (none_within (is_mark k.At))

pub exact-semicolon : Exact g.semicolon r.semicolon (is_mark k.Semicolon)
unfolding g.semicolon r.semicolon g.mark
exact-semicolon =
    alt (is_mark k.Semicolon) (exact-mark k.Semicolon) (exact-nothing tt)
    (begins_one (the_mark k.Semicolon) (is_mark k.Semicolon) (finds_mark k.Semicolon)) (follows_nothing tt (is_mark k.Semicolon) (is_mark k.Semicolon) (λ s h. h))
    (none_within (is_mark k.Semicolon)) (none_within (is_mark k.Semicolon))

abbrev pub more_line : Token → Bool
more_line = one_of (k.Semicolon ∷ k.Comma ∷ k.Plus ∷ k.Minus ∷ []) (codes "where" ∷ codes "and" ∷ codes "or" ∷ codes "order" ∷ codes "asc" ∷ codes "desc" ∷ [])

line_semicolon : Within (is_mark k.Semicolon) more_line
unfolding same_kind
line_semicolon =
    mark_within k.Semicolon (k.Semicolon ∷ k.Comma ∷ k.Plus ∷ k.Minus ∷ []) (codes "where" ∷ codes "and" ∷ codes "or" ∷ codes "order" ∷ codes "asc" ∷ codes "desc" ∷ []) refl

line_command : Within more_command more_line
unfolding same_kind
line_command =
    fewer_within (k.Comma ∷ k.Plus ∷ k.Minus ∷ []) (k.Semicolon ∷ k.Comma ∷ k.Plus ∷ k.Minus ∷ []) (codes "where" ∷ codes "and" ∷ codes "or" ∷ codes "order" ∷ codes "asc" ∷ codes "desc" ∷ [])
    (codes "where" ∷ codes "and" ∷ codes "or" ∷ codes "order" ∷ codes "asc" ∷ codes "desc" ∷ []) refl refl

semicolon_no_command : Finds (the_mark k.Semicolon) more_command false
unfolding same_kind
semicolon_no_command =
    mark_not k.Semicolon (k.Comma ∷ k.Plus ∷ k.Minus ∷ []) (codes "where" ∷ codes "and" ∷ codes "or" ∷ codes "order" ∷ codes "asc" ∷ codes "desc" ∷ []) refl refl

pub exact-body : Exact g.body r.body more_line
unfolding g.body r.body g.semicolon g.mark
exact-body =
    seq exact-command (λ command.
    exact-within (is_mark k.Semicolon) more_line line_semicolon (exact-map (λ _. command) exact-semicolon))
    (λ command. follows_then g.semicolon _ more_command more_line
    (follows_or _ _ more_command more_command (follows_one (the_mark k.Semicolon) more_command more_command semicolon_no_command) (follows_nothing tt more_command more_command (λ s h. h)))
    (λ _. follows_nothing command more_command more_line line_command))

word_no_at : (s : Token) → is_mark k.Word s ≡ true → is_mark k.At s ≡ false
unfolding is_mark same_kind
word_no_at s h = let e = kind_same s.kind k.Word h in rw e refl

follows_body : Follows (is_mark k.At) g.body never
unfolding g.body
follows_body = follows_first g.command _ (is_mark k.At) never (begins_apart g.command (is_mark k.Word) (is_mark k.At) never begins-command word_no_at)

pub exact-line : Exact g.line r.line more_line
unfolding g.line r.line
exact-line =
    seq exact-session (λ session. exact-map (λ command. (session, command)) exact-body)
    (λ session. follows_first g.body _ (is_mark k.At) more_line follows_body)

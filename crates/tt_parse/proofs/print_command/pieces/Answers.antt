-- Each is what the call ensures.
use Rattle.tt_parse.proofs.print_command.pieces.Goals as goal
use Rattle.tt_parse.specs.Spelling.{pieces}

pub returns-in-XlaCreate : goal.returns-in-XlaCreate
unfolding pieces
returns-in-XlaCreate c = rw c.in-XlaCreate.is c.word_name.ensures

pub returns-in-XlaDelete : goal.returns-in-XlaDelete
unfolding pieces
returns-in-XlaDelete c = rw c.in-XlaDelete.is c.word_name-in-XlaDelete.ensures

pub returns-in-XlaSubscribe : goal.returns-in-XlaSubscribe
unfolding pieces
returns-in-XlaSubscribe c = rw c.in-XlaSubscribe.is c.word_names.ensures

pub returns-in-XlaUnsubscribe : goal.returns-in-XlaUnsubscribe
unfolding pieces
returns-in-XlaUnsubscribe c = rw c.in-XlaUnsubscribe.is c.word_names-in-XlaUnsubscribe.ensures

pub returns-in-XlaOpen : goal.returns-in-XlaOpen
unfolding pieces
returns-in-XlaOpen c = rw c.in-XlaOpen.is c.word_name-in-XlaOpen.ensures

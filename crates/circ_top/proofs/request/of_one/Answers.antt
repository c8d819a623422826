use Rattle.std.proofs.Common.{refl, sym, ap, ◌∙◌}
use Rattle.circ_lib.specs.Library.{library_text}
use Rattle.circ_top.specs.Command.{show, contexts, library}
use Rattle.circ_top.proofs.Requests.{chain_in_table}
use Rattle.circ_top.proofs.request.of_one.Goals as goal

pub returns-then-is_word : goal.returns-then-is_word
returns-then-is_word c = show c.args.word.now (c.if-is_word.ensures.0 refl) refl

pub returns-then-is_word-2 : goal.returns-then-is_word-2
returns-then-is_word-2 c = contexts c.args.word.now (c.if-is_word-2.ensures.0 refl) refl

pub returns-then-is_word-3 : goal.returns-then-is_word-3
returns-then-is_word-3 c =
    chain_in_table c.args.words.now.limits c.args.words.now.name.now c.args.word.now (c.if-is_word-3.ensures.0 refl) c.chain_of.result c.chain_of.ensures

pub returns-in-Some : goal.returns-in-Some
returns-in-Some c =
    library c.args.word.now c.in-Some.text.now (c.if-not-is_word.ensures.0 refl) refl (ap library_text (sym c.as_bytes.ensures.value) ∙ sym c.in-Some.ensures)

use Rattle.std.proofs.Common.{subst, List, ℕ, sym}
use Rattle.circ_lexer.specs.TokenList.{AreTokens, tokens_of}
use Rattle.circ_auto.proofs.Once.{gives_automaton, gives_fault}
use Rattle.circ_auto.proofs.reader.read_automaton.Goals as goal

pub returns-in-Ok : goal.returns-in-Ok
returns-in-Ok c =
    let ts = c.in-Ok.tokens in
    let P : List ℕ → Type 0 = λ bytes. AreTokens bytes (tokens_of ts) in
    record {
      gives = gives_automaton c.automaton_of.result c.args.bytes.now (tokens_of ts) (subst P c.in-Ok.ensures.gives.0 c.known.ensures.tokens)
          (rw c.all_of.ensures at c.automaton_of.ensures);
    }

pub returns-in-Err : goal.returns-in-Err
returns-in-Err c = record { gives = rw c.byte_fault.ensures (gives_fault c.in-Err.fault c.args.bytes.now c.in-Err.ensures.gives) }

use Rattle.std.proofs.Common.{◌≡◌, ◌<◌, ◌∷◌, ◌++◌, [], List, suc, length, length-append, map, drop, get_or, ap, sym, ◌∙◌, arith, append_assoc}
use Rattle.circ_term.specs.Tree.{Tree}
use Rattle.circ_theory.specs.Rewriting.{named}
use Rattle.circ_proof.specs.PlainProof.{plain_step, plain_steps}
use Rattle.circ_proof.specs.Rules.{ProofStep, map_step}
use Rattle.circ_book.specs.Histories.{told_from, told_by, meeting_of}
use Rattle.circ_book.specs.declared.histories.Met.{Met}
use Rattle.circ_book.proofs.Below.{one_told, step_there}
use Rattle.circ_expansion.proofs.Alike.{longer}
use Rattle.circ_book.proofs.histories.tell.Goals as goal

pub loop-one-preserved : goal.loop-one-preserved
loop-one-preserved c =
    let inv = c.loop-one.invariant in
    let r = c.in_ok-tell_one.ensures inv.nodes in
    let ms : List Met = c.pop.new.self.items in
    let one : Met = c.in-Some.one in
    let rest : List Met = inv.told.0 in
    let popped : c.loop-one.met.items ≡ ms ++ one ∷ [] = c.in-Some.ensures.items in
    let many : length c.loop-one.met.items ≡ suc (length ms) = ap length popped ∙ longer ms one in
    let k : c.len.result ≡ length ms = c.len.ensures ∙ c.pop.new.self.ok.0 in
    let whole : ms ++ one ∷ rest ≡ c.args.met.items =
    sym (append_assoc ms (one ∷ []) rest) ∙ ap (λ y. y ++ rest) (sym popped) ∙ inv.told.1 in
    let within : length ms < length c.args.steps.now = omega (arith, ap length whole, length-append ms (one ∷ rest), c.requires.steps) in
    record {
      adds = (inv.adds.0 ++ r.0.0, r.0.1 ∙ ap (λ y. y ++ r.0.0) inv.adds.1 ∙ append_assoc c.args.nodes.now.items inv.adds.0 r.0.0);
      nodes = r.2;
      long = omega (arith, r.1, inv.long, many);
      told = (
        one ∷ rest,
        whole,
        λ table.
            let ss : List (ProofStep Tree) = map (map_step (named table)) (plain_steps c.args.steps.now) in
            let s : ProofStep Tree = map_step (named table) (plain_step c.index-steps-len.result) in
            r.3 table
            ∙ ap (told_by (meeting_of one) s) (inv.told.2 table ∙ ap (λ j. told_from (map meeting_of rest) (drop j ss)) many)
            ∙ one_told (meeting_of one) (map meeting_of rest) ss (length ms) s
            (step_there (map_step (named table)) plain_step c.args.steps.now (length ms) c.index-steps-len.result within
            (c.index-steps-len.is ∙ ap (λ j. get_or c.args.steps.now j c.index-steps-len.result) k)),
      );
    }

use Rattle.std.proofs.Common.{◌≡◌, ◌∙◌, List, [], ap, map, length, arith}
use Rattle.std.proofs.lemmas.List.{length-map}
use Rattle.circ_term.specs.Tree.{Tree}
use Rattle.circ_term.proofs.Limits.{within_limits}
use Rattle.circ_theory.specs.Occurring.{Occurring}
use Rattle.circ_theory.specs.Occurring.{variable_of}
use Rattle.circ_theory.proofs.Numbering.{length-seen_in}
use Rattle.circ_theory.specs.Variables.{seen_in}
use Rattle.circ_mixfix.proofs.numbering.term_numbering.Goals as goal

all_seen : (t : Tree) (new got shown : List Occurring) → new ≡ [] → map variable_of got ≡ seen_in t (map variable_of new) → shown ≡ got → map variable_of shown ≡ seen_in t []
all_seen t new got shown a b c = ap (map variable_of) c ∙ b ∙ ap (λ ks. seen_in t (map variable_of ks)) a

pub numbering-requires : goal.numbering-requires
numbering-requires c =
    let t = c.args.term.now in
    let e = all_seen t c.new-variables.result.keys c.gather.new.variables.keys c.as_slice.result.now c.new-variables.ensures.empty c.in_ok-gather.ensures c.as_slice.ensures.keys in
    omega (arith, length-map c.as_slice.result.now variable_of, ap length e, length-seen_in t [], (within_limits t c.known.ensures).0)

pub returns : goal.returns
returns c =
    let t = c.args.term.now in
    let e = all_seen t c.new-variables.result.keys c.gather.new.variables.keys c.as_slice.result.now c.new-variables.ensures.empty c.in_ok-gather.ensures c.as_slice.ensures.keys in
    rw (← e) c.numbering.ensures

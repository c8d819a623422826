use Rattle.std.proofs.Common.{◌∙◌, arith}
use Rattle.std.proofs.lemmas.Option.{slice_get_within}
use Rattle.circ_proof.specs.Table.{number_in}
use Rattle.circ_file.proofs.numbering.Numbering.number_of.Goals as goal

pub known_number-requires : goal.known_number-requires
known_number-requires c = c.requires.1.numbered.same c.args.term.now ∙ c.requires.2

pub index-requires : goal.index-requires
index-requires c =
    let t = c.args.term.now in
    let n = c.args.self.now in
    let first = c.requires.1.numbered.firsts_are t c.requires.2 in
    omega (arith, c.known_number.ensures, slice_get_within n.firsts.items (number_in n.terms t) (number_in c.requires.0 t) first)

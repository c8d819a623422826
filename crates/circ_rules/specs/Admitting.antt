-- The start of a place's certificates.
use Rattle.std.specs.Prelude.{◌≡◌, Some}
use Rattle.std.specs.List.{slice_get}
use Rattle.circ_term.specs.Tree.{App}
use Rattle.circ_theory.specs.Theory.{Theory}
use Rattle.circ_theory.specs.Operators.{operator_of}
use Rattle.circ_special.specs.declared.place.Place.{Place}
use Rattle.circ_special.specs.Special.{IsPlace}
use Rattle.circ_proof.specs.Certified.{start_args}
use Rattle.circ_rules.specs.declared.certificates.Start.{Start}

-- the operator of the place, on variables, with the sort of the argument
pub record IsStart (th : Theory) (s : Start) : Type 0 where
  pub place : IsPlace th s.place
  pub listed : slice_get th.signature.ops s.place.op ≡ Some (operator_of s.decl.now)
  pub argument : slice_get s.decl.now.args.items s.place.arg ≡ Some s.sort
  pub term : s.term ≡ App s.place.op s.decl.now.result (start_args s.place.arg 1 s.decl.now.args.items)

pub record IsStartOf (th : Theory) (g : Place) (s : Start) : Type 0 where
  pub place : s.place ≡ g
  pub start : IsStart th s

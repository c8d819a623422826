-- What contracts see of a reducer.
use Rattle.std.specs.Prelude.{◌≡◌}
use Rattle.circ_theory.specs.Theory.{Theory}
use Rattle.circ_rewrite.specs.Due.{AreUnconditional}
use Rattle.circ_memo.specs.Value.{Rewriting}
use Rattle.circ_tries.specs.declared.reducer.Way.{Way}
use Rattle.circ_tries.specs.declared.reducer.Way.TheVariants.{Plain, Tried}

-- what terms are rewritten by, either way
abbrev pub rewriting_by : Way → Rewriting
rewriting_by (Plain memo) = memo
rewriting_by (Tried trying) = trying

-- a memo is asked where no rule has conditions
abbrev pub IsRightWay : Way → Type 0
IsRightWay (Plain memo) = AreUnconditional memo.rules
IsRightWay (Tried trying) = Unit {0}

-- The way is right, and by this theory.
pub record IsReducer (th : Theory) (way : Way) : Type 0 where
  pub right : IsRightWay way
  pub theory : (rewriting_by way).theory ≡ th

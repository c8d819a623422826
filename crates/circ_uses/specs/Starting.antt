-- The parameters with which certificates start.
use Rattle.std.specs.Prelude.{◌≡◌, ℕ}
use Rattle.circ_term.specs.Tree.{Tree}
use Rattle.circ_theory.specs.Theory.{Theory}
use Rattle.circ_theory.specs.Experiment.{derived}
use Rattle.circ_theory.specs.Fresh.{numbered_from}
use Rattle.circ_entry.specs.Entries.{derivative_at}
use Rattle.circ_uses.specs.Valuations.{valued_by}
use Rattle.circ_uses.specs.declared.valuation.Valuation.{Valuation}

-- for the derivative of this number these terms are as good as variables numbered from k
abbrev pub StartsWith : Theory → (derivative k : ℕ) → Valuation → Type 0
StartsWith th n k v = (t : Tree) → derived (derivative_at th n) t (valued_by v) ≡ derived (derivative_at th n) t (numbered_from k)

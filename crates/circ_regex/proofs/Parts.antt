-- The parts of LANG make LANG.
use Rattle.std.specs.Prelude.{◌≡◌, ℕ, List, [], codes, refl}
use Rattle.circ_theory.specs.Theory.{Theory}
use Rattle.circ_regex.specs.Lang.{LANG}
use Rattle.circ_regex.specs.Making.{with_lang_sorts, with_lang_ops, with_lang_observers, with_lang_equations, with_lang_parts}

-- a theory of this name without parts
abbrev pub bare : List ℕ → Theory
bare name = record { name = name; signature = record { sorts = []; ops = [] }; variables = []; equations = []; derivatives = []; cases = [] }

pub all_parts : with_lang_parts (bare (codes "LANG")) ≡ LANG
unfolding with_lang_sorts with_lang_ops with_lang_observers with_lang_equations LANG
all_parts = refl

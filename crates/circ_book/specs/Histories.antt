-- What becomes of goals, as the code keeps it: nodes by number, each of which names nodes before it.
use Rattle.std.specs.Prelude.{◌≡◌, ◌<◌, ◌≤◌, ℕ, ◌+◌, ◌==◌, if◌then◌else◌, List, [], ◌∷◌, ◌++◌, zero, suc, map, length}
use Rattle.std.specs.List.{slice_get, AllByRecursion}
use Rattle.std.specs.Option.{option_map_or}
use Rattle.circ_term.specs.Tree.{Tree}
use Rattle.circ_theory.specs.Theory.{Theory}
use Rattle.circ_theory.specs.Goal.{Goal}
use Rattle.circ_special.specs.declared.place.Place.{Place}
use Rattle.circ_proof.specs.Plain.{plain_chain, plain_why}
use Rattle.circ_proof.specs.Link.{setting, resolved_chain, resolved_why}
use Rattle.circ_theory.specs.Rewriting.{named}
use Rattle.circ_proof.specs.PlainProof.{plain_step, plain_steps}
use Rattle.circ_proof.specs.declared.proof.Step.{Step}
use Rattle.circ_proof.specs.Rules.{ProofStep, map_step, Simplify, Reduce, Derive, Cases, Done, derivatives_on}
use Rattle.circ_expansion.specs.Followed.{History, Histories, Simplified, Reduced_by, Derived, Open, no_history, more_histories, Told, told_as, and_simplified}
use Rattle.circ_expansion.specs.Followed.{and_reduced, and_derived, led_goal}
use Rattle.circ_book.specs.declared.histories.Node.{Node}
use Rattle.circ_book.specs.declared.histories.What.{What}
use Rattle.circ_book.specs.declared.histories.What.TheVariants as what
use Rattle.circ_book.specs.declared.histories.Met.{Met}
use Rattle.circ_book.specs.declared.histories.Numbers.{Numbers}

abbrev pub histories_of : List History → Histories
histories_of [] = no_history
histories_of (h ∷ hs) = more_histories h (histories_of hs)

-- of this goal, with what becomes of the nodes that are named
abbrev pub history_with : (table : List Tree) → (ℕ → History) → Goal → What → History
history_with table h g (what.Simplified chain next) = Simplified g (resolved_chain table (plain_chain chain.now)) (h next)
history_with table h g (what.Reduced why) = Reduced_by g (resolved_why table (plain_why why.now))
history_with table h g (what.Derived children) = Derived g (histories_of (map h children.items))

-- .. of the node of this number, where it is one of the first so many; what is no node is open
abbrev pub history_below : (table : List Tree) → (count : ℕ) → List Node → ℕ → History
history_below table zero ns k = Open
history_below table (suc b) ns k =
    if k == b then option_map_or (λ n. history_with table (history_below table b ns) n.goal n.what) (slice_get ns b) Open
    else history_below table b ns k

abbrev pub history_at : (table : List Tree) → List Node → ℕ → History
history_at table ns k = history_below table (length ns) ns k

abbrev pub told_at : (table : List Tree) → List Node → Numbers → Told
told_at table ns t = told_as (histories_of (map (history_at table ns) t.goals.items)) (histories_of (map (history_at table ns) t.derived.items))

-- a goal that a step acts on, and how many others there are
abbrev pub Meeting : Type 0
Meeting = Goal × ℕ

abbrev pub meeting_of : Met → Meeting
meeting_of m = (m.goal, m.others)

-- what the steps act on, in order
abbrev pub meetings : Theory → List Place → (hypotheses goals : List Goal) → List (ProofStep Tree) → List Meeting
meetings th G H gs [] = []
meetings th G H [] (s ∷ ss) = []
meetings th G H (p ∷ ps) (Simplify chain ∷ ss) = (p, length ps) ∷ meetings th G H (led_goal (setting th G H []) chain p ∷ ps) ss
meetings th G H (p ∷ ps) (Reduce why ∷ ss) = (p, length ps) ∷ meetings th G H ps ss
meetings th G H (p ∷ ps) (Derive ∷ ss) = (p, length ps) ∷ meetings th G (H ++ p ∷ []) (ps ++ derivatives_on th p) ss
meetings th G H (p ∷ ps) (Cases u ∷ ss) = []
meetings th G H (p ∷ ps) (Done ∷ ss) = []

-- the first goal is put last
abbrev pub Meets : List Goal → (ms ns : List Meeting) → Type 0
Meets gs ms ns = (p : Goal) (ps : List Goal) → gs ≡ p ∷ ps → ns ≡ ms ++ (p, length ps) ∷ []

-- hypotheses are put behind those that there were
abbrev pub Lengthens : (H K : List Goal) → Type 0
Lengthens H K = (ds : List Goal) × (K ≡ H ++ ds)

-- what is told by one step of what is told by those after it
abbrev pub told_by : Meeting → ProofStep Tree → Told → Told
told_by m (Simplify chain) t = and_simplified m.0 chain t
told_by m (Reduce why) t = and_reduced m.0 why t
told_by m Derive t = and_derived m.0 m.1 t
told_by m (Cases u) t = told_as no_history no_history
told_by m Done t = told_as no_history no_history

-- what is told by steps and what they act on
abbrev pub told_from : List Meeting → List (ProofStep Tree) → Told
told_from [] ss = told_as no_history no_history
told_from (m ∷ ms) [] = told_as no_history no_history
told_from (m ∷ ms) (s ∷ ss) = told_by m s (told_from ms ss)

-- the numbers are nodes
pub record AreNodes (ns : List Node) (t : Numbers) : Type 0 where
  pub goals : AllByRecursion (λ k. k < length ns) t.goals.items
  pub derived : AllByRecursion (λ k. k < length ns) t.derived.items

-- nodes are added behind the others
abbrev pub Adds : (ns ms : List Node) → Type 0
Adds ns ms = (xs : List Node) × (ms ≡ ns ++ xs)

-- Where the numbers are nodes, one step more is told of them, whatever the table.
abbrev pub TellsOne : (ns ms : List Node) (t u : Numbers) → Meeting → Step ℕ → Type 0
TellsOne ns ms t u m s = AreNodes ns t → Adds ns ms × (length ms ≤ suc (length ns)) × AreNodes ms u
    × ((table : List Tree) → told_at table ms u ≡ told_by m (map_step (named table) (plain_step s)) (told_at table ns t))

-- all that the steps tell of what they act on
abbrev pub Tells : (ns ms : List Node) → Numbers → List Meeting → List (Step ℕ) → Type 0
Tells ns ms u m ss = Adds ns ms × AreNodes ms u × (length ms ≤ length ns + length m)
    × ((table : List Tree) → told_at table ms u ≡ told_from m (map (map_step (named table)) (plain_steps ss)))

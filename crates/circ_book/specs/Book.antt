-- What becomes of all goals of a proof, as the code keeps it.
use Rattle.std.specs.Prelude.{◌≡◌, ◌≤◌, ℕ, ◌+◌, List, [], ◌∷◌, ◌++◌, map, length, take}
use Rattle.std.specs.List.{slice_get}
use Rattle.std.specs.Option.{option_map_or}
use Rattle.std.specs.declared.collections.VecDeque.{VecDeque}
use Rattle.std.proofs.Common.{Global}
use Rattle.circ_term.specs.Tree.{Tree}
use Rattle.circ_theory.specs.Theory.{Theory}
use Rattle.circ_theory.specs.Rewriting.{named}
use Rattle.circ_theory.specs.Goal.{Goal}
use Rattle.circ_special.specs.declared.place.Place.{Place}
use Rattle.circ_proof.specs.PlainProof.{plain_steps}
use Rattle.circ_proof.specs.Rules.{map_step}
use Rattle.circ_proof.specs.declared.proof.Block.{Block}
use Rattle.circ_proof.specs.Proof.{Proof}
use Rattle.circ_expansion.specs.Followed.{told, hypotheses_of, goals_of, Followed as History_in}
use Rattle.circ_book.specs.Histories.{told_at, history_at, AreNodes, Adds}
use Rattle.circ_book.specs.declared.histories.Node.{Node}
use Rattle.circ_book.specs.declared.histories.Numbers.{Numbers}
use Rattle.circ_book.specs.declared.book.Followed.{Followed}
use Rattle.circ_book.specs.declared.book.Derivations.{Derivations}
use Rattle.circ_book.specs.declared.book.Book.{Book}

-- nodes in a block
abbrev pub kept_in : (block : ℕ) → List ℕ → List Followed
kept_in b ks = map (λ k. record { block = b; node = k }) ks

abbrev pub derivations : (earlier : ℕ) → VecDeque ℕ Global → Derivations
derivations n d = record { earlier = n; derived = d }

-- The block is told of by steps on its goals: its numbers are nodes, behind those that there were. Its goals come last, and its hypotheses are the goals before
-- them and what it derives.
pub record AddsBlock (th : Theory) (G : List Place) (table : List Tree) (a b : Book) (H : List Goal) (block : Block) : Type 0 where
  pub numbers : Numbers
  pub nodes : Adds a.nodes.items b.nodes.items
  pub few : length b.nodes.items ≤ length a.nodes.items + length block.steps.items
  pub are : AreNodes b.nodes.items numbers
  pub right : told_at table b.nodes.items numbers ≡ told th G H block.goals.items (map (map_step (named table)) (plain_steps block.steps.items))
  pub goals : b.goals.items ≡ a.goals.items ++ kept_in (length a.blocks.items) numbers.goals.items
  pub blocks : b.blocks.items ≡ a.blocks.items ++ derivations (length a.goals.items) numbers.derived ∷ []

-- a goal with what becomes of it
abbrev pub followed_by : (table : List Tree) → List Node → Followed → History_in
followed_by table ns x = record { block = x.block; history = history_at table ns x.node }

-- the hypotheses of the blocks from this one on, each as it is followed
abbrev pub hypotheses_in : (table : List Tree) → List Node → (goals : List Followed) → (block : ℕ) → List Derivations → List (List History_in)
hypotheses_in table ns gs n [] = []
hypotheses_in table ns gs n (d ∷ ds) =
    (map (followed_by table ns) (take d.earlier gs) ++ map (followed_by table ns) (kept_in n d.derived.items)) ∷ hypotheses_in table ns gs (n + 1) ds

-- All goals of the proof are in it as they are followed, and all hypotheses.
pub record IsBook (th : Theory) (p : Proof) (b : Book) : Type 0 where
  pub goals : map (followed_by p.table b.nodes.items) b.goals.items ≡ goals_of th p 0 [] p.blocks
  pub hypotheses : hypotheses_in p.table b.nodes.items b.goals.items 0 b.blocks.items ≡ hypotheses_of th p 0 [] [] p.blocks

-- the hypotheses of a block
abbrev pub kept_hypotheses : (goals : List Followed) → (block : ℕ) → Derivations → List Followed
kept_hypotheses gs n d = take d.earlier gs ++ kept_in n d.derived.items

abbrev pub kept_at : Book → (block : ℕ) → List Followed
kept_at b n = option_map_or (kept_hypotheses b.goals.items n) (slice_get b.blocks.items n) []

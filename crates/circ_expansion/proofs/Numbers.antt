-- Goals by number, block by block.
use Rattle.std.proofs.Common.{◌≡◌, ◌≤◌, ◌<◌, ℕ, ◌+◌, ◌-◌, List, [], ◌∷◌, ◌++◌, zero, suc, map, drop, length, get_or, Option, Some, None, refl, ap, sym, ◌∙◌}
use Rattle.std.proofs.Common.{arith}
use Rattle.std.specs.List.{slice_get}
use Rattle.std.proofs.lemmas.List.{drop_more}
use Rattle.circ_theory.specs.Goal.{Goal}
use Rattle.circ_theory.proofs.Lists.{slice_get-front}
use Rattle.circ_proof.specs.declared.proof.Block.{Block}
use Rattle.circ_proof.specs.PlainProof.{plain_block}
use Rattle.circ_expansion.specs.Goals.{all_goals}

get_behind : {X : Type 0} (xs ys : List X) (n : ℕ) → slice_get xs n ≡ None → slice_get (xs ++ ys) n ≡ slice_get ys (n - length xs)
get_behind [] ys n e = let z : n ≡ n - 0 = omega arith in ap (slice_get ys) z
get_behind (x ∷ xs) ys zero e = absurd (cc)
get_behind (x ∷ xs) ys (suc n) e = get_behind xs ys n e ∙ (let z : n - length xs ≡ suc n - suc (length xs) = omega arith in ap (slice_get ys) z)

-- the goal of this number in the blocks from the i-th on
abbrev pub from_block : List Block → (i n : ℕ) → Option Goal
from_block bs i n = slice_get (all_goals (map plain_block (drop i bs))) n

from_next : (bs : List Block) (i n : ℕ) (b : Block) → i < length bs → b ≡ get_or bs i b
    → from_block bs i n ≡ slice_get (b.goals.items ++ all_goals (map plain_block (drop (i + 1) bs))) n
from_next bs i n b lt is =
    ap (λ ds. slice_get (all_goals (map plain_block ds)) n) (drop_more bs i b lt ∙ ap (λ y. y ∷ drop (i + 1) bs) (sym is))

pub got : {X : Type 0} (xs : List X) (n : ℕ) (x : X) → n < length xs → x ≡ get_or xs n x → slice_get xs n ≡ Some x
got [] n x l e = absurd (omega (arith, l))
got (y ∷ ys) zero x l e = ap Some (sym e)
got (y ∷ ys) (suc n) x l e = got ys n x (omega (arith, l)) e

pub got_none : {X : Type 0} (xs : List X) (n : ℕ) → length xs ≤ n → slice_get xs n ≡ None
got_none [] n l = refl
got_none (y ∷ ys) zero l = absurd (omega (arith, l))
got_none (y ∷ ys) (suc n) l = got_none ys n (omega (arith, l))

pub here_found : (bs : List Block) (i n : ℕ) (b : Block) (g : Goal) → i < length bs → b ≡ get_or bs i b → n < length b.goals.items
    → g ≡ get_or b.goals.items n g
    → from_block bs i n ≡ Some g
here_found bs i n b g lt is l e =
    from_next bs i n b lt is ∙ slice_get-front b.goals.items (all_goals (map plain_block (drop (i + 1) bs))) n g (got b.goals.items n g l e)

pub later_found : (bs : List Block) (i n : ℕ) (b : Block) → i < length bs → b ≡ get_or bs i b → length b.goals.items ≤ n
    → from_block bs (i + 1) (n - length b.goals.items) ≡ from_block bs i n
later_found bs i n b lt is l =
    sym (from_next bs i n b lt is ∙ get_behind b.goals.items (all_goals (map plain_block (drop (i + 1) bs))) n (got_none b.goals.items n l))

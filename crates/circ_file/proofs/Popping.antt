-- A part that leaves the queue.
use Rattle.std.specs.Prelude.{◌≡◌, List, [], ◌∷◌, ◌++◌, length, map, drop, Option, Some, None, refl}
use Rattle.std.specs.Option.{option_to_list}
use Rattle.std.proofs.Common.{◌∙◌, ap, arith}
use Rattle.circ_file.specs.View.{plain_part, now_at, now_outside, Pops}
use Rattle.circ_file.specs.Conds.{nested}
use Rattle.circ_grammar.specs.Now.{Joining}
use Rattle.circ_proof.specs.Plain.{plain_chain}
use Rattle.circ_table.specs.declared.part.Part.{Part as CodePart}
use Rattle.circ_file.specs.declared.machine.Machine.{Machine}
use Rattle.circ_file.specs.declared.machine.Mode.{Mode}
use Rattle.circ_file.specs.declared.machine.Mode.TheVariants as mode

none_left : (xs : List CodePart) → xs ≡ drop 1 xs → xs ≡ []
none_left [] e = refl
none_left (x ∷ xs) e = absurd (let n = ap length e in omega (arith, n))

pub popped : (o : Option CodePart) (xs ys : List CodePart) → xs ≡ option_to_list o ++ ys → ys ≡ drop 1 xs → Pops o (map plain_part xs) (map plain_part ys)
popped None xs ys a b = let left = none_left ys (b ∙ ap (drop 1) a) in (ap (map plain_part) (a ∙ left), ap (map plain_part) left)
popped (Some x) xs ys a b = ap (map plain_part) a

-- the part under way is as before
pub now_same : (k : Mode) (m n : Machine) → n.places ≡ m.places → n.links ≡ m.links → n.names ≡ m.names → n.chain ≡ m.chain → n.splits ≡ m.splits
    → n.base ≡ m.base → n.conds ≡ m.conds → n.cond ≡ m.cond → now_at k n ≡ now_at k m
now_same mode.Placing m n a b c d e f g h = ap (λ x. now_at mode.Placing (record n { places = x })) a
now_same mode.Certifying m n a b c d e f g h = ap (λ x. now_at mode.Certifying (record n { links = x })) b
now_same mode.Opened m n a b c d e f g h = ap (λ x. now_at mode.Opened (record n { names = x })) c
now_same mode.Simplifying m n a b c d e f g h = ap (λ x. now_at mode.Simplifying (record n { chain = x })) d
now_same mode.Reducing m n a b c d e f g h =
    ap (λ x. now_at mode.Reducing (record n { chain = x })) d ∙ ap (λ x. now_at mode.Reducing (record n { chain = m.chain; splits = x })) e
now_same mode.Joining m n a b c d e f g h =
    ap (λ x. Joining (nested (now_outside x n) (map plain_chain n.conds.items)) (plain_chain n.cond)) f
    ∙ ap (λ x. Joining (nested x (map plain_chain n.conds.items)) (plain_chain n.cond)) (outside m.base)
    ∙ ap (λ x. Joining (nested (now_outside m.base m) (map plain_chain x.items)) (plain_chain n.cond)) g
    ∙ ap (λ x. Joining (nested (now_outside m.base m) (map plain_chain m.conds.items)) (plain_chain x)) h
  where
    outside : (k : Mode) → now_outside k n ≡ now_outside k m
    outside mode.Certifying = ap (λ x. now_outside mode.Certifying (record n { links = x })) b
    outside mode.Simplifying = ap (λ x. now_outside mode.Simplifying (record n { chain = x })) d
    outside mode.Reducing =
        ap (λ x. now_outside mode.Reducing (record n { chain = x })) d
        ∙ ap (λ x. now_outside mode.Reducing (record n { chain = m.chain; splits = x })) e
    outside _ = refl
now_same _ m n a b c d e f g h = refl

-- What a line does to the part under way.
use Rattle.std.specs.Prelude.{◌≡◌, ◌⊎◌, ℕ, List, [], ◌∷◌, ◌++◌, map, Some, cond, refl}
use Rattle.std.proofs.Common.{sym, ◌∙◌, ap, inl, inr}
use Rattle.std.proofs.lemmas.Bool.{eq-eqb, ne_eqb}
use Rattle.std.proofs.lemmas.List.{append-nil}
use Rattle.circ_term.specs.Tree.{Tree}
use Rattle.circ_special.specs.declared.place.Place.{Place}
use Rattle.circ_proof.specs.Plain.{ChainOf, WhyOf, Same_why, Split_why, no_why}
use Rattle.circ_grammar.specs.Machine.{OpenSplit, open_split, empty}
use Rattle.circ_grammar.specs.Now.{Now, Reducing, give_why_now, why_part, next_same, same_part, next_split, split_part}
use Rattle.circ_proof_text.specs.Parts.{Part, Head, place_with, part_with}
use Rattle.circ_proof_text.specs.ProofText.{place_numbers}
use Rattle.circ_file.specs.Splits.{plain_split, tops, given, now_given, parts_given}
use Rattle.circ_file.specs.View.{now_at, IsMachineAt, shown_front_parts}
use Rattle.circ_file.specs.declared.splits.OpenSplit.{OpenSplit as CodeSplit}
use Rattle.circ_file.specs.declared.machine.Mode.{Mode}
use Rattle.circ_file.specs.declared.machine.Mode.TheVariants as mode
use Rattle.circ_file.specs.declared.machine.Machine.{Machine}
use Rattle.circ_file.proofs.Given.{tops-push, give-given}

pub places_back : (ps : List Place) → map place_with (map place_numbers ps) ≡ ps
places_back [] = refl
places_back (p ∷ ps) = ap (λ x. p ∷ x) (places_back ps)

head_here : (ts : List Tree) (m : Machine) (k : Mode) → IsMachineAt k ts m → (k ≡ mode.Tabling) ⊎ (k ≡ mode.Placing)
    → shown_front_parts ts (now_at k m) ≡ Head ts m.places.items ∷ []
head_here ts m mode.Tabling e o = ap (λ x. Head ts x ∷ []) (sym e)
head_here ts m mode.Placing e o = ap (λ x. Head ts x ∷ []) (places_back m.places.items)
head_here ts m _ e (inl o) = absurd (cc)
head_here ts m _ e (inr o) = absurd (cc)

-- The table and the places end where the next part begins.
pub head_ends : (ts : List Tree) (m : Machine) → IsMachineAt m.mode ts m → (m.mode ≡ mode.Tabling) ⊎ (m.mode ≡ mode.Placing)
    → shown_front_parts ts (now_at m.mode m) ≡ Head ts m.places.items ∷ []
head_ends ts m e o = head_here ts m m.mode e o

-- A line that closes a why: the split or the step that waits for it.
pub same_goes : (ts : List Tree) (ss rs : List OpenSplit) (ch dh : ChainOf ℕ) (old new : Now) (q r s : List Part) → old ≡ Reducing ss ch → rs ≡ ss → dh ≡ ch → r ≡ q
    → new ≡ now_given (given rs (Same_why dh)) → s ≡ r ++ parts_given (given rs (Same_why dh))
    → (next_same old ≡ Some new) × (s ≡ q ++ map (part_with ts) (same_part {T = List Tree} old))
same_goes ts ss rs ch dh old new q r s o a c d e f =
    let g = give-given ts ss (Same_why ch) in
    let to : given rs (Same_why dh) ≡ given ss (Same_why ch) = ap (λ x. given x (Same_why dh)) a ∙ ap (λ x. given ss (Same_why x)) c in (
      ap next_same o ∙ ap (λ x. Some x) (g.0 ∙ sym (e ∙ ap now_given to)),
      f ∙ ap (λ x. x ++ parts_given (given rs (Same_why dh))) d ∙ ap (λ x. q ++ parts_given x) to ∙ ap (λ x. q ++ x) (sym g.1)
          ∙ ap (λ x. q ++ map (part_with ts) (same_part {T = List Tree} x)) (sym o),
    )

pub split_closes : (ts : List Tree) (ss rs : List OpenSplit) (ch dh : ChainOf ℕ) (t n : ℕ) (w : WhyOf ℕ) (old new : Now) (q r s : List Part) → old ≡ Reducing ss ch
    → rs ≡ ss → w ≡ Split_why dh t no_why → dh ≡ ch → r ≡ q → n ≡ 0 → new ≡ now_given (given rs w) → s ≡ r ++ parts_given (given rs w)
    → (next_split old t n ≡ Some new) × (s ≡ q ++ map (part_with ts) (split_part {T = List Tree} old t n))
split_closes ts ss rs ch dh t n w old new q r s o a b c d z e f =
    let g = give-given ts ss (Split_why ch t no_why) in
    let to : given rs w ≡ given ss (Split_why ch t no_why) = ap (λ x. given x w) a ∙ ap (given ss) (b ∙ ap (λ x. Split_why x t no_why) c) in (
      ap (λ x. next_split x t n) o
          ∙ ap (λ b. Some (cond b (give_why_now ss (Split_why ch t no_why)) (Reducing (open_split ch t n no_why ∷ ss) empty))) (eq-eqb n 0 z)
          ∙ ap (λ x. Some x) (g.0 ∙ sym (e ∙ ap now_given to)),
      f ∙ ap (λ x. x ++ parts_given (given rs w)) d ∙ ap (λ x. q ++ parts_given x) to ∙ ap (λ x. q ++ x) (sym g.1)
          ∙ ap (λ b. q ++ map (part_with ts) (cond b (why_part {T = List Tree} ss (Split_why ch t no_why)) [])) (sym (eq-eqb n 0 z))
          ∙ ap (λ x. q ++ map (part_with ts) (split_part {T = List Tree} x t n)) (sym o),
    )

pub split_opens : (ts : List Tree) (us vs : List CodeSplit) (top : CodeSplit) (ss : List OpenSplit) (ch k : ChainOf ℕ) (t n : ℕ) (old new : Now) (q r : List Part)
    → old ≡ Reducing ss ch → tops us [] ≡ ss → vs ≡ us ++ top ∷ [] → plain_split top ≡ open_split ch t n no_why → k ≡ empty → r ≡ q → (n ≡ 0 → ⊥) → new ≡ Reducing (tops vs []) k
    → (next_split old t n ≡ Some new) × (r ≡ q ++ map (part_with ts) (split_part {T = List Tree} old t n))
split_opens ts us vs top ss ch k t n old new q r o a b c d e z m =
    let stack : tops vs [] ≡ open_split ch t n no_why ∷ ss
    = ap (λ x. tops x []) b ∙ tops-push us top [] ∙ ap (λ x. x ∷ tops us []) c ∙ ap (λ x. open_split ch t n no_why ∷ x) a in (
      ap (λ x. next_split x t n) o
          ∙ ap (λ b. Some (cond b (give_why_now ss (Split_why ch t no_why)) (Reducing (open_split ch t n no_why ∷ ss) empty))) (ne_eqb n 0 z)
          ∙ ap (λ x. Some x) (sym (m ∙ ap (λ x. Reducing x k) stack ∙ ap (Reducing (open_split ch t n no_why ∷ ss)) d)),
      e ∙ sym (append-nil q) ∙ ap (λ b. q ++ map (part_with ts) (cond b (why_part {T = List Tree} ss (Split_why ch t no_why)) [])) (sym (ne_eqb n 0 z))
          ∙ ap (λ x. q ++ map (part_with ts) (split_part {T = List Tree} x t n)) (sym o),
    )

-- nothing is asked of a machine among links
pub kept_among_links : (k : Mode) (ts : List Tree) (m : Machine) → k ≡ mode.Reducing → IsMachineAt k ts m
kept_among_links mode.Reducing ts m e = tt
kept_among_links _ ts m e = absurd (cc)

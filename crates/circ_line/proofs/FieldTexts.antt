-- The fields of a line: each has one text, and each text is read.
use Rattle.std.specs.Prelude.{◌≡◌, ℕ, ◌<◌, ◌^◌, List, [], ◌∷◌, ◌++◌, map, flat_map, refl, Option, Some, None, codes, decimal}
use Rattle.std.specs.Option.{option_map}
use Rattle.std.proofs.Common.{sym, ◌∙◌, ap, subst, arith, append_assoc, append-nil}
use Rattle.std.proofs.lemmas.Option.{same_Some}
use Rattle.circ_theory.specs.declared.way.Way.{Way}
use Rattle.circ_theory.specs.declared.way.Way.TheVariants.{Forth, Back}
use Rattle.circ_line.specs.Text.{path_word, way_word, AreNumbers, IsPathInRange}
use Rattle.circ_line.specs.Front.{rest_after, marked, items_at, ended}
use Rattle.circ_line.specs.Read.{field_at, numbers_of, number_of, pair_of, way_at, path_from, path_at, rule_at, instance_of}
use Rattle.circ_line.proofs.Many.{IsItem, CanFollow, items_gives, items_again, begin_items}
use Rattle.circ_line.proofs.Parts.{IsText, Any, map_some, or_gives, after_gives, whole_text, then_text, seq_item}
use Rattle.circ_line.proofs.Decimals.{NoDigit, marked_item, marked_follows}

abbrev pub field : ℕ → List ℕ
field n = 32 ∷ decimal n

abbrev pub step : ℕ → List ℕ
step n = 46 ∷ decimal n

-- words with a mark before each
abbrev pub words_after : (mark : ℕ) → List ℕ → List ℕ
words_after mark ns = flat_map (λ w. mark ∷ w) (map decimal ns)

words_are : (mark : ℕ) (ns : List ℕ) → flat_map (λ n. mark ∷ decimal n) ns ≡ words_after mark ns
words_are mark [] = refl
words_are mark (n ∷ ns) = ap (λ r. (mark ∷ decimal n) ++ r) (words_are mark ns)

abbrev pub IsNumber : ℕ → Type 0
IsNumber n = n < 2 ^ 32

pub field_item : IsItem field field_at IsNumber NoDigit
field_item = marked_item 32 (2 ^ 32) (omega arith)

pub field_follows : CanFollow field NoDigit
field_follows = marked_follows 32 refl

pub steps_item : IsItem step (marked 46 (2 ^ 16)) (λ n. n < 2 ^ 16) NoDigit
steps_item = marked_item 46 (2 ^ 16) (omega arith)

pub steps_follow : CanFollow step NoDigit
steps_follow = marked_follows 46 refl

pub number_text : IsText field number_of IsNumber
number_text = whole_text field_item tt

pub pair_text : IsText (λ p. field p.0 ++ field p.1) pair_of (λ p. IsNumber p.0 × IsNumber p.1)
pair_text = then_text field_item number_text (λ n. refl)

pub numbers_text : IsText (words_after 32) numbers_of AreNumbers
numbers_text = record { gives = gives; again = again }
  where
    gives : (bs ns : List ℕ) → numbers_of bs ≡ Some ns → (bs ≡ words_after 32 ns) × AreNumbers ns
    gives bs ns e = go (items_at field_at bs) refl e
      where
        go : (p : List ℕ × List ℕ) → items_at field_at bs ≡ p → ended p ≡ Some ns → (bs ≡ words_after 32 ns) × AreNumbers ns
        go (ms, []) q e =
            let same : ms ≡ ns = same_Some ms ns e in
            let g : (bs ≡ flat_map field ns ++ []) × AreNumbers ns = items_gives field_item field_follows bs ns [] (q ∙ ap (λ z. (z, [])) same) in
            (g.0 ∙ append-nil (flat_map field ns) ∙ words_are 32 ns, g.1)
        go (ms, b ∷ r) q e = absurd (cc)

    again : (ns : List ℕ) → AreNumbers ns → numbers_of (words_after 32 ns) ≡ Some ns
    again ns fit =
        ap numbers_of (sym (append-nil (flat_map field ns) ∙ words_are 32 ns)) ∙ ap ended (items_again field_item field_follows ns [] fit tt refl)

way_item : IsItem (λ w. 32 ∷ way_word w) way_at (λ w. Unit {0}) Any
way_item = record { gives = gives; again = again }
  where
    gives : (bs : List ℕ) (w : Way) (r : List ℕ) → way_at bs ≡ Some (w, r) → (bs ≡ (32 ∷ way_word w) ++ r) × Unit {0}
    gives bs w r e = or_gives (codes " >") bs (λ s. Some (Forth, s)) (option_map (λ s. (Back, s)) (rest_after (codes " <") bs)) (w, r) e
        (λ s first q. (first ∙ ap (λ p. (32 ∷ way_word p.0) ++ p.1) (same_Some (Forth, s) (w, r) q), tt))
        (λ q. let m : (s : List ℕ) × (rest_after (codes " <") bs ≡ Some s) × ((Back, s) ≡ (w, r)) = map_some (λ s. (Back, s)) (rest_after (codes " <") bs) (w, r) q in
        (after_gives (codes " <") bs m.0 m.1 ∙ ap (λ p. (32 ∷ way_word p.0) ++ p.1) m.2, tt))

    again : (w : Way) (r : List ℕ) → Unit {0} → Any r → way_at ((32 ∷ way_word w) ++ r) ≡ Some (w, r)
    again Forth r fit t = refl
    again Back r fit t = refl

-- bytes that go on with no digit and no step down
abbrev pub EndsPath : List ℕ → Type 0
EndsPath r = NoDigit r × (marked 46 (2 ^ 16) r ≡ None)

first_item : IsItem field (marked 32 (2 ^ 16)) (λ n. n < 2 ^ 16) NoDigit
first_item = marked_item 32 (2 ^ 16) (omega arith)

abbrev pub path_field : List ℕ → List ℕ
path_field p = 32 ∷ path_word p

pub path_item : IsItem path_field path_at IsPathInRange EndsPath
path_item = record { gives = gives; again = again }
  where
    gives : (bs ns r : List ℕ) → path_at bs ≡ Some (ns, r) → (bs ≡ path_field ns ++ r) × IsPathInRange ns
    gives bs ns r e = go (marked 32 (2 ^ 16) bs) refl e
      where
        go : (o : Option (ℕ × List ℕ)) → marked 32 (2 ^ 16) bs ≡ o → path_from bs o ≡ Some (ns, r) → (bs ≡ path_field ns ++ r) × IsPathInRange ns
        go None q e =
            let m : (s : List ℕ) × (rest_after (codes " -") bs ≡ Some s) × (([], s) ≡ (ns, r)) = map_some (λ s. ([], s)) (rest_after (codes " -") bs) (ns, r) e in
            let P : List ℕ × List ℕ → Type 0 = λ z. (bs ≡ path_field z.0 ++ z.1) × IsPathInRange z.0 in
            subst P m.2 (after_gives (codes " -") bs m.0 m.1, tt)
        go (Some p) q e =
            let s : List ℕ × List ℕ = items_at (marked 46 (2 ^ 16)) p.1 in
            let front : (bs ≡ field p.0 ++ p.1) × (p.0 < 2 ^ 16) = first_item.gives bs p.0 p.1 q in
            let rest : (p.1 ≡ flat_map step s.0 ++ s.1) × IsPathInRange s.0 = items_gives steps_item steps_follow p.1 s.0 s.1 refl in
            let P : List ℕ × List ℕ → Type 0 = λ z. (bs ≡ path_field z.0 ++ z.1) × IsPathInRange z.0 in
            subst P (same_Some (p.0 ∷ s.0, s.1) (ns, r) e) (
              front.0 ∙ ap (λ z. field p.0 ++ z) (rest.0 ∙ ap (λ z. z ++ s.1) (words_are 46 s.0)) ∙ sym (append_assoc (field p.0) (words_after 46 s.0) s.1),
              (front.1, rest.1),
            )

    again : (ns r : List ℕ) → IsPathInRange ns → EndsPath r → path_at (path_field ns ++ r) ≡ Some (ns, r)
    again [] r fit n = refl
    again (n ∷ ns) r fit ends =
        let rest : List ℕ = flat_map step ns ++ r in
        ap path_at (append_assoc (field n) (words_after 46 ns) r ∙ ap (λ z. field n ++ (z ++ r)) (sym (words_are 46 ns)))
        ∙ ap (path_from (field n ++ rest)) (first_item.again n rest fit.0 (begin_items steps_item steps_follow ns r ends.0))
        ∙ ap (λ s. Some (n ∷ s.0, s.1)) (items_again steps_item steps_follow ns r fit.1 ends.0 ends.1)

abbrev pub rule_field : Way × (ℕ × List ℕ) → List ℕ
rule_field p = (32 ∷ way_word p.0) ++ (field p.1.0 ++ path_field p.1.1)

abbrev pub IsRule : Way × (ℕ × List ℕ) → Type 0
IsRule p = Unit {0} × (IsNumber p.1.0 × IsPathInRange p.1.1)

pub rule_item : IsItem rule_field rule_at IsRule EndsPath
rule_item = seq_item way_item (seq_item field_item path_item (λ p r t. refl)) (λ p r t. tt)

pub words_end_path : (ns : List ℕ) → EndsPath (words_after 32 ns)
words_end_path [] = (tt, refl)
words_end_path (n ∷ ns) = (refl, refl)

pub words_no_digit : (ns : List ℕ) → NoDigit (words_after 32 ns)
words_no_digit [] = tt
words_no_digit (n ∷ ns) = refl

pub instance_text : IsText (λ p. rule_field p.0 ++ words_after 32 p.1) instance_of (λ p. IsRule p.0 × AreNumbers p.1)
instance_text = then_text rule_item numbers_text words_end_path

-- Links and lines: each has one text, and each text is read.
use Rattle.std.specs.Prelude.{◌≡◌, ◌≤◌, ◌==◌, ℕ, zero, suc, List, [], ◌∷◌, ◌++◌, flat_map, refl, Some, None, Bool, true, false, if◌then◌else◌, codes, decimal}
use Rattle.std.specs.List.{AllByRecursion}
use Rattle.std.specs.Option.{option_and_then, option_map}
use Rattle.std.specs.Str.{bytes_eq}
use Rattle.std.proofs.Common.{sym, ◌∙◌, ap, subst, arith, append_assoc, append-nil}
use Rattle.std.proofs.lemmas.Option.{same_Some, none-some}
use Rattle.std.proofs.lemmas.Bool.{eqb-true}
use Rattle.std.proofs.lemmas.Slice.Eq.{bytes_eq-Decides}
use Rattle.circ_theory.specs.declared.way.Way.{Way}
use Rattle.circ_proof.specs.Plain.{LinkOf, Equation_link, Hypothesis_link, Assumption_link, Content_link}
use Rattle.circ_line.specs.Line.{Variable_line, Application_line, Line, head_line, table_line, place_line, certificate_line, block_line, goal_line, given_line, simplify_line, reduce_line, derive_line, cases_line, done_line, same_line, split_line, if_line, left_line, right_line, end_line}
use Rattle.circ_line.specs.Text.{joined, way_word, link_words, line_text, AreNumbers, IsPathInRange, IsLinkInRange, IsInRange}
use Rattle.circ_line.specs.Front.{whole, then_whole}
use Rattle.circ_line.specs.Read.{field_at, numbers_of, number_of, pair_of, path_at, rule_at, to_equation, to_hypothesis, to_assumption, to_content, link_of, first_of, frame_lines, to_variable, to_goal, to_given, to_place, to_split, head_with, head_of, short_line, to_application, line_of}
use Rattle.circ_line.proofs.Parts.{IsText, bind_some, or_gives, kind_gives, whole_text, then_text}
use Rattle.circ_line.proofs.FieldTexts.{field, words_after, path_field, rule_field, IsNumber, IsRule, field_item, path_item, rule_item, number_text, pair_text, numbers_text, instance_text, words_no_digit}

-- links

abbrev link_text : LinkOf ℕ → List ℕ
link_text link = joined 32 (link_words link)

abbrev Instance : Type 0
Instance = (Way × (ℕ × List ℕ)) × List ℕ

instance_words : (word : List ℕ) (p : Instance) → word ++ (rule_field p.0 ++ words_after 32 p.1) ≡ word ++ ((32 ∷ way_word p.0.0) ++ (field p.0.1.0 ++ (path_field p.0.1.1 ++ words_after 32 p.1)))
instance_words word p = simp append_assoc

assumption_words : (p : Way × (ℕ × List ℕ)) → codes "assumption" ++ rule_field p ≡ link_text (to_assumption p)
assumption_words p = ap (λ t. codes "assumption" ++ ((32 ∷ way_word p.0) ++ (field p.1.0 ++ t))) (sym (append-nil (path_field p.1.1)))

abbrev ContentParts : Type 0
ContentParts = ℕ × (List ℕ × ℕ)

abbrev content_text : ContentParts → List ℕ
content_text p = field p.0 ++ (path_field p.1.0 ++ field p.1.1)

content_words : (p : ContentParts) → codes "content" ++ content_text p ≡ link_text (to_content p)
content_words p = ap (λ t. codes "content" ++ (field p.0 ++ (path_field p.1.0 ++ t))) (sym (append-nil (field p.1.1)))

content_parts : IsText content_text (then_whole field_at (then_whole path_at number_of)) (λ p. IsNumber p.0 × (IsPathInRange p.1.0 × IsNumber p.1.1))
content_parts = then_text field_item (then_text path_item number_text (λ n. (refl, refl))) (λ p. refl)

assumption_text : IsText rule_field (whole rule_at) IsRule
assumption_text = whole_text rule_item (tt, refl)

abbrev IsLink : List ℕ → LinkOf ℕ → Type 0
IsLink bs l = (bs ≡ link_text l) × IsLinkInRange l

link_gives : (bs : List ℕ) (l : LinkOf ℕ) → link_of bs ≡ Some l → IsLink bs l
link_gives bs l e = or_gives (codes "equation") bs _ _ l e
    (λ r first q. kind_gives instance_text link_text IsLinkInRange to_equation (codes "equation") bs r l (instance_words (codes "equation")) (λ x f. ((f.0.1.0, f.1), f.0.1.1, refl)) first q)
    (λ e. or_gives (codes "hypothesis") bs _ _ l e
    (λ r first q. kind_gives instance_text link_text IsLinkInRange to_hypothesis (codes "hypothesis") bs r l (instance_words (codes "hypothesis")) (λ x f. ((f.0.1.0, f.1), f.0.1.1, refl)) first q)
    (λ e. or_gives (codes "assumption") bs _ _ l e
    (λ r first q. kind_gives assumption_text link_text IsLinkInRange to_assumption (codes "assumption") bs r l assumption_words (λ x f. ((f.1.0, tt), f.1.1)) first q)
    (λ e. or_gives (codes "content") bs _ _ l e
    (λ r first q. kind_gives content_parts link_text IsLinkInRange to_content (codes "content") bs r l content_words (λ x f. ((f.0, (f.1.1, tt)), f.1.0)) first q)
    (λ e. absurd (cc)))))

link_again : (l : LinkOf ℕ) → IsLinkInRange l → link_of (link_text l) ≡ Some l
link_again (Equation_link n w p ts cs) fit =
    ap link_of (sym (instance_words (codes "equation") ((w, (n, p)), ts)))
    ∙ ap (option_map to_equation) (instance_text.again ((w, (n, p)), ts) ((tt, (fit.0.0, fit.1)), fit.0.1))
    ∙ ap (λ c. Some (Equation_link n w p ts c)) (sym fit.2)
link_again (Hypothesis_link n w p ts cs) fit =
    ap link_of (sym (instance_words (codes "hypothesis") ((w, (n, p)), ts)))
    ∙ ap (option_map to_hypothesis) (instance_text.again ((w, (n, p)), ts) ((tt, (fit.0.0, fit.1)), fit.0.1))
    ∙ ap (λ c. Some (Hypothesis_link n w p ts c)) (sym fit.2)
link_again (Assumption_link n w p) fit =
    ap link_of (sym (assumption_words (w, (n, p)))) ∙ ap (option_map to_assumption) (assumption_text.again (w, (n, p)) (tt, (fit.0.0, fit.1)))
link_again (Content_link f p t) fit =
    ap link_of (sym (content_words (f, (p, t)))) ∙ ap (option_map to_content) (content_parts.again (f, (p, t)) (fit.0.0, (fit.1, fit.0.1.0)))

links : IsText link_text link_of IsLinkInRange
links = record { gives = link_gives; again = link_again }

-- lines

abbrev Is : List ℕ → Line → Type 0
Is bs l = (bs ≡ line_text l) × IsInRange l

side_words : (side : List ℕ) (l : LinkOf ℕ) → (side ++ (32 ∷ [])) ++ link_text l ≡ joined 32 (side ∷ link_words l)
side_words side l = append_assoc side (32 ∷ []) (link_text l) ∙ ap (λ t. side ++ t) (go l)
  where
    go : (l : LinkOf ℕ) → 32 ∷ link_text l ≡ flat_map (λ w. 32 ∷ w) (link_words l)
    go (Equation_link n w p ts cs) = refl
    go (Hypothesis_link n w p ts cs) = refl
    go (Assumption_link n w p) = refl
    go (Content_link f p t) = refl

pair_words : (word : List ℕ) (p : ℕ × ℕ) → word ++ (field p.0 ++ field p.1) ≡ joined 32 (word ∷ decimal p.0 ∷ decimal p.1 ∷ [])
pair_words word p = ap (λ t. word ++ (field p.0 ++ t)) (sym (append-nil (field p.1)))

number_words : (word : List ℕ) (n : ℕ) → word ++ field n ≡ joined 32 (word ∷ decimal n ∷ [])
number_words word n = ap (λ t. word ++ t) (sym (append-nil (field n)))

applications : IsText (λ p. field p.0 ++ words_after 32 p.1) (then_whole field_at numbers_of) (λ p. IsNumber p.0 × AreNumbers p.1)
applications = then_text field_item numbers_text words_no_digit

first_gives : (ls : List Line) (bs : List ℕ) (l : Line) → AllByRecursion IsInRange ls → first_of ls bs ≡ Some l → Is bs l
first_gives [] bs l fit e = absurd (cc)
first_gives (x ∷ ls) bs l fit e = go (bytes_eq bs (line_text x)) (bytes_eq-Decides bs (line_text x)).0 e (first_gives ls bs l fit.1)
  where
    go : (t : Bool) → (t ≡ true → bs ≡ line_text x) → (if t then Some x else first_of ls bs) ≡ Some l → (first_of ls bs ≡ Some l → Is bs l) → Is bs l
    go true is e ih = let P : Line → Type 0 = Is bs in subst P (same_Some x l e) (is refl, fit.0)
    go false is e ih = ih e

pair_gives : (to : ℕ × ℕ → Line) (word bs r : List ℕ) (l : Line) → ((p : ℕ × ℕ) → line_text (to p) ≡ joined 32 (word ∷ decimal p.0 ∷ decimal p.1 ∷ []))
    → ((p : ℕ × ℕ) → IsNumber p.0 × IsNumber p.1 → IsInRange (to p)) → bs ≡ word ++ r → option_map to (pair_of r) ≡ Some l → Is bs l
pair_gives to word bs r l same good first e =
    kind_gives pair_text line_text IsInRange to word bs r l (λ p. pair_words word p ∙ sym (same p)) good first e

version_gives : (bs r : List ℕ) (l : Line) → bs ≡ codes "circproof" ++ r → head_of r ≡ Some l → Is bs l
version_gives bs r l first e =
    let p : (v : ℕ) × (number_of r ≡ Some v) × (head_with v ≡ Some l) = bind_some head_with (number_of r) l e in
    let g : (r ≡ field p.0) × IsNumber p.0 = number_text.gives r p.0 p.1 in
    let P : Line → Type 0 = Is bs in
    let q : IsInRange (head_line p.0) × (head_line p.0 ≡ l) = by_number p.0 p.2 in
    subst P q.1 (first ∙ ap (λ t. codes "circproof" ++ t) g.0 ∙ number_words (codes "circproof") p.0, q.0)
  where
    by_number : (v : ℕ) → head_with v ≡ Some l → IsInRange (head_line v) × (head_line v ≡ l)
    by_number v e = go (v == 1) (v == 2) refl refl e
      where
        go : (t u : Bool) → (v == 1) ≡ t → (v == 2) ≡ u → (if t then Some (head_line 1) else if u then Some (head_line 2) else None) ≡ Some l
            → IsInRange (head_line v) × (head_line v ≡ l)
        go true u x y e = let z : v ≡ 1 = eqb-true v 1 x in ((omega (arith, z), omega (arith, z)), ap head_line z ∙ same_Some (head_line 1) l e)
        go false true x y e = let z : v ≡ 2 = eqb-true v 2 y in ((omega (arith, z), omega (arith, z)), ap head_line z ∙ same_Some (head_line 2) l e)
        go false false x y e = absurd (none-some l e)

short_gives : (bs : List ℕ) (l : Line) → short_line bs ≡ Some l → Is bs l
short_gives bs l e = or_gives (codes "v") bs _ _ l e
    (λ r first q. pair_gives to_variable (codes "v") bs r l (λ p. refl) (λ p f. (f.0, (f.1, tt))) first q)
    (λ e. or_gives (codes "goal") bs _ _ l e
    (λ r first q. pair_gives to_goal (codes "goal") bs r l (λ p. refl) (λ p f. (f.0, (f.1, tt))) first q)
    (λ e. or_gives (codes "given") bs _ _ l e
    (λ r first q. pair_gives to_given (codes "given") bs r l (λ p. refl) (λ p f. (f.0, (f.1, tt))) first q)
    (λ e. or_gives (codes "place") bs _ _ l e
    (λ r first q. pair_gives to_place (codes "place") bs r l (λ p. refl) (λ p f. (f.0, (f.1, tt))) first q)
    (λ e. or_gives (codes "split") bs _ _ l e
    (λ r first q. pair_gives to_split (codes "split") bs r l (λ p. refl) (λ p f. (f.0, (f.1, tt))) first q)
    (λ e. or_gives (codes "cases") bs _ _ l e
    (λ r first q. kind_gives number_text line_text IsInRange cases_line (codes "cases") bs r l (number_words (codes "cases")) (λ n f. (f, tt)) first q)
    (λ e. or_gives (codes "circproof") bs _ _ l e
    (λ r first q. version_gives bs r l first q)
    (λ e. first_gives
    (same_line ∷ reduce_line ∷ derive_line ∷ simplify_line ∷ if_line ∷ frame_lines)
    bs l (tt, (tt, (tt, (tt, (tt, (tt, (tt, (tt, (tt, tt))))))))) e)))))))

pub line_gives : (bs : List ℕ) (l : Line) → line_of bs ≡ Some l → Is bs l
line_gives bs l e = or_gives (codes "left ") bs _ _ l e
    (λ r first q. kind_gives links line_text IsInRange left_line (codes "left ") bs r l (side_words (codes "left")) (λ x f. f) first q)
    (λ e. or_gives (codes "right ") bs _ _ l e
    (λ r first q. kind_gives links line_text IsInRange right_line (codes "right ") bs r l (side_words (codes "right")) (λ x f. f) first q)
    (λ e. or_gives (codes "a") bs _ _ l e
    (λ r first q. kind_gives applications line_text IsInRange to_application (codes "a") bs r l (λ p. refl) (λ p f. f) first q)
    (λ e. short_gives bs l e)))

head_again : (v : ℕ) → 1 ≤ v → v ≤ 2 → line_of (line_text (head_line v)) ≡ Some (head_line v)
head_again v h k =
    ap line_of (sym (number_words (codes "circproof") v)) ∙ ap (option_and_then head_with) (number_text.again v (omega (arith, k))) ∙ by_number v h k
  where
    by_number : (v : ℕ) → 1 ≤ v → v ≤ 2 → head_with v ≡ Some (head_line v)
    by_number zero h k = absurd (omega arith)
    by_number (suc zero) h k = refl
    by_number (suc (suc zero)) h k = refl
    by_number (suc (suc (suc n))) h k = absurd (omega arith)

pub line_again : (l : Line) → IsInRange l → line_of (line_text l) ≡ Some l
line_again (head_line v) fit = head_again v fit.0 fit.1
line_again (table_line (Variable_line n s)) fit =
    ap line_of (sym (pair_words (codes "v") (n, s))) ∙ ap (option_map to_variable) (pair_text.again (n, s) (fit.0, fit.1.0))
line_again (table_line (Application_line f ts)) fit = ap (option_map to_application) (applications.again (f, ts) fit)
line_again (place_line f i) fit =
    ap line_of (sym (pair_words (codes "place") (f, i))) ∙ ap (option_map to_place) (pair_text.again (f, i) (fit.0, fit.1.0))
line_again certificate_line fit = refl
line_again block_line fit = refl
line_again (goal_line s t) fit =
    ap line_of (sym (pair_words (codes "goal") (s, t))) ∙ ap (option_map to_goal) (pair_text.again (s, t) (fit.0, fit.1.0))
line_again (given_line s t) fit =
    ap line_of (sym (pair_words (codes "given") (s, t))) ∙ ap (option_map to_given) (pair_text.again (s, t) (fit.0, fit.1.0))
line_again simplify_line fit = refl
line_again reduce_line fit = refl
line_again derive_line fit = refl
line_again (cases_line t) fit = ap line_of (sym (number_words (codes "cases") t)) ∙ ap (option_map cases_line) (number_text.again t fit.0)
line_again done_line fit = refl
line_again same_line fit = refl
line_again (split_line t n) fit =
    ap line_of (sym (pair_words (codes "split") (t, n))) ∙ ap (option_map to_split) (pair_text.again (t, n) (fit.0, fit.1.0))
line_again if_line fit = refl
line_again (left_line l) fit = ap line_of (sym (side_words (codes "left") l)) ∙ ap (option_map left_line) (link_again l fit)
line_again (right_line l) fit = ap line_of (sym (side_words (codes "right") l)) ∙ ap (option_map right_line) (link_again l fit)
line_again end_line fit = refl

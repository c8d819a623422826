-- The rules of the operators, some operators more.
use Rattle.std.proofs.Common.{◌≡◌, ◌⊎◌, ◌≤◌, ◌<◌, ◌+◌, ◌++◌, ℕ, zero, suc, List, [], ◌∷◌, length, Bool, true, false, Some, inl, inr, sym, ◌∙◌, ap, subst, refl, arith}
use Rattle.std.specs.Prelude.{if◌then◌else◌}
use Rattle.std.specs.List.{slice_get, list_any}
use Rattle.std.proofs.lemmas.Bool.{cases_eq}
use Rattle.std.proofs.lemmas.List.{length-append}
use Rattle.std.proofs.lemmas.Option.{slice_get_within}
use Rattle.circ_spelling.specs.declared.grammar.Rule.{Rule}
use Rattle.circ_form.specs.declared.forms.Piece.{Piece}
use Rattle.circ_form.specs.declared.forms.Piece.TheVariants as piece
use Rattle.circ_theory.specs.declared.parts.Side.{Side}
use Rattle.circ_form.specs.Form.{is_word, first_word}
use Rattle.circ_theory.specs.Signature.{Signature, Operator}
use Rattle.circ_form.specs.Form.{is_hole_piece, hole_count}
use Rattle.circ_theory.specs.Operators.{IsOperator, places_from}
use Rattle.circ_mixfix.specs.Symbols.{Symbol, every, inner_symbols, form_symbols, arguments, symbols_of, precedence_of}
use Rattle.circ_mixfix.specs.Coding.{HaveNumbers, IsRuleOf, HasRules, AddsRule, AddsRules}
use Rattle.circ_mixfix.specs.Least.{StandsIn, least_for}
use Rattle.circ_mixfix.proofs.SymbolWords.{form_word, no_holes, some_hole, fits, one_more}
use Rattle.circ_mixfix.proofs.WordLists.{get_last, get_front}

abbrev Has : Signature → List (List ℕ) → List Rule → ℕ → Operator → Type 0
Has sig ws rs f o = (n : ℕ) × (r : Rule) × (slice_get rs n ≡ Some r) × IsRuleOf ws f o r

pub no_rules : (sig : Signature) (ws : List (List ℕ)) (most : ℕ) (least : List ℕ) (rs : List Rule) → rs ≡ [] → HasRules sig ws most least (λ f. ⊥) rs
no_rules sig ws most least rs e = record {
  rules = λ n r l. absurd (let w = slice_get_within rs n r l in let len = ap length e in omega arith);
  all_rules = λ f o c l p h m. absurd c;
}

pub rules_kept : (sig : Signature) (ws : List (List ℕ)) (most : ℕ) (least : List ℕ) (C D : ℕ → Type 0) (rs : List Rule) → ((f : ℕ) → D f → C f) → HasRules sig ws most least C rs → HasRules sig ws most least D rs
rules_kept sig ws most least C D rs le h = record { rules = h.rules; all_rules = λ f o c l p k m. h.all_rules f o (le f c) l p k m }

-- one operator more
rules_more : (sig : Signature) (ws : List (List ℕ)) (most : ℕ) (least : List ℕ) (C : ℕ → Type 0) (g : ℕ) (rs new : List Rule) → AddsRule sig ws most least g rs new → HasRules sig ws most least C rs → HasRules sig ws most least (λ f. C f ⊎ (f ≡ g)) new
rules_more sig ws most least C g rs new (inl a) h =
    let P : List Rule → Type 0 = HasRules sig ws most least (λ f. C f ⊎ (f ≡ g)) in
    subst P (sym a.0) (record { rules = h.rules; all_rules = all })
  where
    all : (f : ℕ) (o : Operator) → (C f ⊎ (f ≡ g)) → slice_get sig.ops f ≡ Some o → precedence_of o < every → HaveNumbers ws (symbols_of o) → least_for least (symbols_of o) ≤ most → Has sig ws rs f o
    all f o (inl c) l p k m = h.all_rules f o c l p k m
    all f o (inr e) l p k m = absurd (a.1 o (ap (slice_get sig.ops) (sym e) ∙ l) p k m)
rules_more sig ws most least C g rs new (inr a) h =
    let P : List Rule → Type 0 = HasRules sig ws most least (λ f. C f ⊎ (f ≡ g)) in
    subst P (sym a.4) (record { rules = λ n x l. sound n x l (cases_eq n (length rs)); all_rules = all })
  where
    sound : (n : ℕ) (x : Rule) → slice_get (rs ++ a.1 ∷ []) n ≡ Some x → ((n ≡ length rs) ⊎ (n ≡ length rs → ⊥)) → (f : ℕ) × (o : Operator) × (slice_get sig.ops f ≡ Some o) × IsRuleOf ws f o x
    sound n x l (inl w) =
        let z : Some a.1 ≡ Some x = sym (get_last rs a.1) ∙ ap (slice_get (rs ++ a.1 ∷ [])) (sym w) ∙ l in
        let Q : Rule → Type 0 = IsRuleOf ws g a.0 in
        (g, a.0, a.2, subst Q (cc z) a.3)
    sound n x l (inr w) = let i = slice_get_within (rs ++ a.1 ∷ []) n x l in let len = length-append rs (a.1 ∷ []) in h.rules n x (sym (get_front rs a.1 n (omega arith)) ∙ l)

    all : (f : ℕ) (o : Operator) → (C f ⊎ (f ≡ g)) → slice_get sig.ops f ≡ Some o → precedence_of o < every → HaveNumbers ws (symbols_of o) → least_for least (symbols_of o) ≤ most → Has sig ws (rs ++ a.1 ∷ []) f o
    all f o (inl c) l p k m = let r = h.all_rules f o c l p k m in (r.0, r.1, get_front rs a.1 r.0 (slice_get_within rs r.0 r.1 r.2) ∙ r.2, r.3)
    all f o (inr e) l p k m =
        let z : Some a.0 ≡ Some o = sym a.2 ∙ ap (slice_get sig.ops) (sym e) ∙ l in
        let Q : Operator → Type 0 = λ v. IsRuleOf ws f v a.1 in
        let R : ℕ → Type 0 = λ v. IsRuleOf ws v a.0 a.1 in
        (length rs, a.1, get_last rs a.1, subst Q (cc z) (subst R (sym e) a.3))

-- several operators more
rules_all : (sig : Signature) (ws : List (List ℕ)) (most : ℕ) (least : List ℕ) (C : ℕ → Type 0) (fs : List ℕ) (rs new : List Rule) → AddsRules sig ws most least fs rs new → HasRules sig ws most least C rs
    → HasRules sig ws most least (λ f. C f ⊎ ((k : ℕ) × (slice_get fs k ≡ Some f))) new
rules_all sig ws most least C [] rs new a h =
    let P : List Rule → Type 0 = HasRules sig ws most least (λ f. C f ⊎ ((k : ℕ) × (slice_get [] k ≡ Some f))) in
    subst P (sym a) (rules_kept sig ws most least C (λ f. C f ⊎ ((k : ℕ) × (slice_get [] k ≡ Some f))) rs same h)
  where
    same : (f : ℕ) → (C f ⊎ ((k : ℕ) × (slice_get [] k ≡ Some f))) → C f
    same f (inl c) = c
    same f (inr k) = absurd (let z = k.1 in cc z)
rules_all sig ws most least C (g ∷ fs) rs new a h =
    rules_kept sig ws most least (λ f. (C f ⊎ (f ≡ g)) ⊎ ((k : ℕ) × (slice_get fs k ≡ Some f))) (λ f. C f ⊎ ((k : ℕ) × (slice_get (g ∷ fs) k ≡ Some f))) new there
    (rules_all sig ws most least (λ f. C f ⊎ (f ≡ g)) fs a.0 new a.2 (rules_more sig ws most least C g rs a.0 a.1 h))
  where
    later : (f k : ℕ) → slice_get (g ∷ fs) k ≡ Some f → (C f ⊎ (f ≡ g)) ⊎ ((j : ℕ) × (slice_get fs j ≡ Some f))
    later f zero e = inl (inr (let z : g ≡ f = cc e in sym z))
    later f (suc k) e = inr (k, e)

    there : (f : ℕ) → (C f ⊎ ((k : ℕ) × (slice_get (g ∷ fs) k ≡ Some f))) → (C f ⊎ (f ≡ g)) ⊎ ((j : ℕ) × (slice_get fs j ≡ Some f))
    there f (inl c) = inl (inl c)
    there f (inr k) = later f k.0 k.1

-- a place that passes is among those that pass
pub place_there : {X : Type 0} (p : X → Bool) (b : ℕ) (xs : List X) (g : ℕ) (x : X) → slice_get xs g ≡ Some x → p x ≡ true → (k : ℕ) × (slice_get (places_from p b xs) k ≡ Some (b + g))
place_there p b [] g x e t = absurd (cc)
place_there p b (y ∷ xs) zero x e t =
    let q : y ≡ x = cc e in
    let s : p y ≡ true = ap p q ∙ t in
    let z : b ≡ b + 0 = omega arith in
    (0, rw s (ap (λ n. Some n) z))
place_there p b (y ∷ xs) (suc g) x e t = go (place_there p (b + 1) xs g x e t) (p y)
  where
    z : b + 1 + g ≡ b + suc g
    z = omega arith

    go : (k : ℕ) × (slice_get (places_from p (b + 1) xs) k ≡ Some (b + 1 + g)) → (c : Bool)
        → (k : ℕ) × (slice_get (if c then b ∷ places_from p (b + 1) xs else places_from p (b + 1) xs) k ≡ Some (b + suc g))
    go r true = (suc r.0, r.1 ∙ ap (λ n. Some n) z)
    go r false = (r.0, r.1 ∙ ap (λ n. Some n) z)

-- the rules of the listed operators
pub rules_listed : (sig : Signature) (ws : List (List ℕ)) (most : ℕ) (least fs : List ℕ) (rs new : List Rule) → rs ≡ [] → AddsRules sig ws most least fs rs new
    → HasRules sig ws most least (StandsIn fs) new
rules_listed sig ws most least fs rs new none a =
    rules_kept sig ws most least (λ f. ⊥ ⊎ StandsIn fs f) (StandsIn fs) new (λ f h. inr h) (rules_all sig ws most least (λ f. ⊥) fs rs new a (no_rules sig ws most least rs none))

-- an operator whose words have numbers begins with one of them
inner_first : (ws : List (List ℕ)) (p : ℕ) (side : Side) (ps : List Piece) (ss : List ℕ) (qs : List Symbol) → list_any is_word ps ≡ true → hole_count ps < length ss + 1
    → HaveNumbers ws (inner_symbols p side ps ss ++ qs) → (n : ℕ) × (slice_get ws n ≡ Some (first_word ps))
inner_first ws p side [] ss qs h l k = absurd (cc)
inner_first ws p side (piece.Word w ∷ ps) ss qs h l k = k.0
inner_first ws p side (piece.Hole ∷ ps) [] qs h l k = let e = one_more ps in absurd (omega arith)
inner_first ws p side (piece.Hole ∷ ps) (s ∷ ss) qs h l k = let e = one_more ps in inner_first ws p side ps ss qs h (omega arith) k.1

no_more : (ps : List Symbol) → ps ++ [] ≡ ps
no_more [] = refl
no_more (p ∷ ps) = ap (λ x. p ∷ x) (no_more ps)

form_first : (ws : List (List ℕ)) (p : ℕ) (side : Side) (ps : List Piece) (ss : List ℕ) → list_any is_word ps ≡ true → hole_count ps ≡ length ss → HaveNumbers ws (form_symbols p side ps ss)
    → (n : ℕ) × (slice_get ws n ≡ Some (first_word ps))
form_first ws p side [] ss h l k = absurd (cc)
form_first ws p side (piece.Word w ∷ ps) ss h l k = k.0
form_first ws p side (piece.Hole ∷ ps) [] h l k = let e = one_more ps in absurd (omega arith)
form_first ws p side (piece.Hole ∷ ps) (s ∷ ss) h l k =
    let e = one_more ps in
    let P : List Symbol → Type 0 = HaveNumbers ws in
    inner_first ws p side ps ss [] h (omega arith) (subst P (sym (no_more (inner_symbols p side ps ss))) k.1)

pub first_number : (sig : Signature) (ws : List (List ℕ)) (o : Operator) → IsOperator sig o → HaveNumbers ws (symbols_of o) → (n : ℕ) × (slice_get ws n ≡ Some (first_word o.form))
first_number sig ws o h k = go (list_any is_hole_piece o.form) refl
  where
    go : (b : Bool) → list_any is_hole_piece o.form ≡ b → (n : ℕ) × (slice_get ws n ≡ Some (first_word o.form))
    go true e = form_first ws o.prec o.side o.form o.args (form_word o.form h.is_form) (fits o h.fits (some_hole o.form e)) (rw e at k)
    go false e =
        let n = no_holes o.form e in
        inner_first ws 0 o.side o.form [] (arguments o.args) (form_word o.form h.is_form) (omega arith) (rw e at k)

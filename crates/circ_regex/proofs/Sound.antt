-- What is read is spelled.
use Rattle.std.specs.Prelude.{◌≡◌, ℕ, zero, suc, List, [], ◌∷◌, ◌++◌, Bool, true, false, ◌==◌, if◌then◌else◌, Option, Some, None, replicate, refl}
use Rattle.std.specs.Option.{option_and_then}
use Rattle.std.proofs.Common.{ap, sym, subst, ◌∙◌, append_assoc, append-nil, eqb-true}
use Rattle.std.proofs.lemmas.Option.{same_Some}
use Rattle.circ_regex.specs.Matches.{a_letter, b_letter, Expression, no_word, empty_word, one_letter, either_of, in_turn, any_number}
use Rattle.circ_regex.specs.Grammar.{sum_rank, product_rank, factor_rank, atom_rank, starred, SpellsExpression, one_product, more_products}
use Rattle.circ_regex.specs.Grammar.{one_factor, more_factors, with_stars, by_a, by_b, by_zero, by_one, grouped}
use Rattle.circ_regex.specs.Frames.{Frame, Frames, frame_with, frames_with, empty_frame, no_frames, nested, with_factor, frame_sum, on_star}
use Rattle.circ_regex.specs.Frames.{on_plus, on_open, into_outer, on_close, on_mark, atom_of, on_atom, on_byte, on_bytes, whole_sum, expression_read}

-- the text of factors, the latest first
abbrev pub Factors : List Expression → List ℕ → Type 0
Factors [] bs = bs ≡ []
Factors (f ∷ fs) bs = (t : List ℕ) × (s : List ℕ) × (bs ≡ t ++ s) × SpellsExpression factor_rank s f × Factors fs t

-- of products with a + after each
abbrev pub Sums : List Expression → List ℕ → Type 0
Sums [] bs = bs ≡ []
Sums (p ∷ ps) bs = (t : List ℕ) × (s : List ℕ) × (bs ≡ t ++ (s ++ 43 ∷ [])) × SpellsExpression product_rank s p × Sums ps t

abbrev pub InFrame : Frame → List ℕ → Type 0
InFrame f bs = (t : List ℕ) × (s : List ℕ) × (bs ≡ t ++ s) × Sums f.products t × Factors f.factors s

-- of frames with a parenthesis after each
abbrev pub Outer : List Frame → List ℕ → Type 0
Outer [] bs = bs ≡ []
Outer (f ∷ fs) bs = (t : List ℕ) × (s : List ℕ) × (bs ≡ t ++ (s ++ 40 ∷ [])) × InFrame f s × Outer fs t

-- what stands in the frames is spelled by the bytes so far
abbrev pub InState : Frames → List ℕ → Type 0
InState st bs = (t : List ℕ) × (s : List ℕ) × (bs ≡ t ++ s) × Outer st.outer t × InFrame st.now s

-- the factors and what follows them are a product
pub factors_spell : (fs : List Expression) (t s : List ℕ) (x : Expression) → Factors fs t → SpellsExpression product_rank s x → SpellsExpression product_rank (t ++ s) (nested in_turn x fs)
factors_spell [] t s x h d = let P : List ℕ → Type 0 = λ z. SpellsExpression product_rank (z ++ s) x in subst P (sym h) d
factors_spell (f ∷ fs) t s x h d =
    let P : List ℕ → Type 0 = λ z. SpellsExpression product_rank z (nested in_turn (in_turn f x) fs) in
    subst P (sym (append_assoc h.0 h.1 s) ∙ ap (λ z. z ++ s) (sym h.2)) (factors_spell fs h.0 (h.1 ++ s) (in_turn f x) h.4 (more_factors h.3 d))

pub some_factors : (f : Expression) (fs : List Expression) (bs : List ℕ) → Factors (f ∷ fs) bs → SpellsExpression product_rank bs (nested in_turn f fs)
some_factors f fs bs h = let P : List ℕ → Type 0 = λ z. SpellsExpression product_rank z (nested in_turn f fs) in subst P (sym h.2) (factors_spell fs h.0 h.1 f h.4 (one_factor h.3))

pub sums_spell : (ps : List Expression) (t s : List ℕ) (x : Expression) → Sums ps t → SpellsExpression sum_rank s x → SpellsExpression sum_rank (t ++ s) (nested either_of x ps)
sums_spell [] t s x h d = let P : List ℕ → Type 0 = λ z. SpellsExpression sum_rank (z ++ s) x in subst P (sym h) d
sums_spell (p ∷ ps) t s x h d =
    let P : List ℕ → Type 0 = λ z. SpellsExpression sum_rank z (nested either_of (either_of p x) ps) in
    subst P (ap (λ z. h.0 ++ z) (sym (append_assoc h.1 (43 ∷ []) s)) ∙ sym (append_assoc h.0 (h.1 ++ 43 ∷ []) s) ∙ ap (λ z. z ++ s) (sym h.2))
    (sums_spell ps h.0 (h.1 ++ 43 ∷ s) (either_of p x) h.4 (more_products h.3 d))

-- a frame that is closed spells its sum
pub frame_spells : (ps fs : List Expression) (bs : List ℕ) (e : Expression) → InFrame (frame_with ps fs) bs → frame_sum ps fs ≡ Some e → SpellsExpression sum_rank bs e
frame_spells ps [] bs e h c = absurd (cc)
frame_spells ps (f ∷ fs) bs e h c =
    let P : List ℕ → Type 0 = λ z. SpellsExpression sum_rank z e in
    let Q : Expression → Type 0 = λ x. SpellsExpression sum_rank (h.0 ++ h.1) x in
    subst P (sym h.2) (subst Q (same_Some (nested either_of (nested in_turn f fs) ps) e c) (sums_spell ps h.0 h.1 (nested in_turn f fs) h.3 (one_product (some_factors f fs h.1 h.4))))

starred-any_number : (n : ℕ) (e : Expression) → starred n (any_number e) ≡ any_number (starred n e)
starred-any_number zero e = refl
starred-any_number (suc n) e = starred-any_number n (any_number e)

stars-last : (n : ℕ) → ◌≡◌ {A = List ℕ} (replicate n 42 ++ 42 ∷ []) (replicate (suc n) 42)
stars-last zero = refl
stars-last (suc n) = ap (λ (z : List ℕ). 42 ∷ z) (stars-last n)

pub star_factor : {s : List ℕ} {e : Expression} → SpellsExpression factor_rank s e → SpellsExpression factor_rank (s ++ 42 ∷ []) (any_number e)
star_factor (with_stars {s = s} {e = e} n d) =
    let P : List ℕ → Type 0 = λ z. SpellsExpression factor_rank z (any_number (starred n e)) in
    let Q : Expression → Type 0 = λ x. SpellsExpression factor_rank (s ++ replicate (suc n) 42) x in
    subst P (ap (λ z. s ++ z) (sym (stars-last n)) ∙ sym (append_assoc s (replicate n 42) (42 ∷ []))) (subst Q (starred-any_number n e) (with_stars (suc n) d))

-- one more factor at the end
pub add_factor : (st : Frames) (bs s : List ℕ) (e : Expression) → InState st bs → SpellsExpression factor_rank s e → InState (with_factor e st) (bs ++ s)
add_factor st bs s e h d =
    let now = h.4 in (
      h.0,
      h.1 ++ s,
      ap (λ z. z ++ s) h.2 ∙ append_assoc h.0 h.1 s,
      h.3,
      (now.0, now.1 ++ s, ap (λ z. z ++ s) now.2 ∙ append_assoc now.0 now.1 s, now.3, (now.1, s, refl, d, now.4)),
    )

pub one_atom : {s : List ℕ} {e : Expression} → SpellsExpression atom_rank s e → SpellsExpression factor_rank s e
one_atom {s = s} {e = e} d = let P : List ℕ → Type 0 = λ z. SpellsExpression factor_rank z e in subst P (append-nil s) (with_stars 0 d)

pub star_in : (ps fs : List Expression) (outer : List Frame) (bs : List ℕ) (st : Frames) → InState (frames_with (frame_with ps fs) outer) bs → on_star ps fs outer ≡ Some st → InState st (bs ++ 42 ∷ [])
star_in ps [] outer bs st h e = absurd (cc)
star_in ps (f ∷ fs) outer bs st h e =
    let now = h.4 in
    let last = now.4 in
    let P : Frames → Type 0 = λ z. InState z (bs ++ 42 ∷ []) in
    subst P (same_Some (frames_with (frame_with ps (any_number f ∷ fs)) outer) st e) (
      h.0,
      h.1 ++ 42 ∷ [],
      ap (λ z. z ++ 42 ∷ []) h.2 ∙ append_assoc h.0 h.1 (42 ∷ []),
      h.3,
      (
        now.0,
        now.1 ++ 42 ∷ [],
        ap (λ z. z ++ 42 ∷ []) now.2 ∙ append_assoc now.0 now.1 (42 ∷ []),
        now.3,
        (last.0, last.1 ++ 42 ∷ [], ap (λ z. z ++ 42 ∷ []) last.2 ∙ append_assoc last.0 last.1 (42 ∷ []), star_factor last.3, last.4),
      ),
    )

pub plus_in : (ps fs : List Expression) (outer : List Frame) (bs : List ℕ) (st : Frames) → InState (frames_with (frame_with ps fs) outer) bs → on_plus ps fs outer ≡ Some st → InState st (bs ++ 43 ∷ [])
plus_in ps [] outer bs st h e = absurd (cc)
plus_in ps (f ∷ fs) outer bs st h e =
    let now = h.4 in
    let P : Frames → Type 0 = λ z. InState z (bs ++ 43 ∷ []) in
    let made = now.0 ++ (now.1 ++ 43 ∷ []) in
    subst P (same_Some (frames_with (frame_with (nested in_turn f fs ∷ ps) []) outer) st e) (
      h.0,
      made,
      ap (λ z. z ++ 43 ∷ []) h.2 ∙ append_assoc h.0 h.1 (43 ∷ []) ∙ ap (λ z. h.0 ++ z) (ap (λ z. z ++ 43 ∷ []) now.2 ∙ append_assoc now.0 now.1 (43 ∷ [])),
      h.3,
      (made, [], sym (append-nil made), (now.0, now.1, refl, some_factors f fs now.1 now.4, now.3), refl),
    )

pub open_in : (st : Frames) (bs : List ℕ) → InState st bs → InState (frames_with (frame_with [] []) (st.now ∷ st.outer)) (bs ++ 40 ∷ [])
open_in st bs h =
    let made = h.0 ++ (h.1 ++ 40 ∷ []) in
    (made, [], ap (λ z. z ++ 40 ∷ []) h.2 ∙ append_assoc h.0 h.1 (40 ∷ []) ∙ sym (append-nil made), (h.0, h.1, refl, h.4, h.3), ([], [], refl, refl, refl))

pub close_in : (ps fs : List Expression) (outer : List Frame) (bs : List ℕ) (st : Frames) → InState (frames_with (frame_with ps fs) outer) bs → on_close ps fs outer ≡ Some st → InState st (bs ++ 41 ∷ [])
close_in ps fs outer bs st h e = go outer h (frame_sum ps fs) refl e
  where
    go : (outer : List Frame) → InState (frames_with (frame_with ps fs) outer) bs → (o : Option Expression) → frame_sum ps fs ≡ o → option_and_then (into_outer outer) o ≡ Some st → InState st (bs ++ 41 ∷ [])
    go outer h None c e = absurd (cc)
    go [] h (Some x) c e = absurd (cc)
    go (f ∷ outer) h (Some x) c e =
        let inner = h.3 in
        let P : Frames → Type 0 = λ z. InState z (bs ++ 41 ∷ []) in
        let Q : List ℕ → Type 0 = λ z. InState (frames_with (frame_with f.products (x ∷ f.factors)) outer) z in
        let text : (inner.0 ++ inner.1) ++ (40 ∷ h.1 ++ 41 ∷ []) ≡ bs ++ 41 ∷ [] =
        append_assoc inner.0 inner.1 (40 ∷ h.1 ++ 41 ∷ [])
        ∙ ap (λ z. inner.0 ++ z) (sym (append_assoc inner.1 (40 ∷ []) (h.1 ++ 41 ∷ [])))
        ∙ sym (append_assoc inner.0 (inner.1 ++ 40 ∷ []) (h.1 ++ 41 ∷ []))
        ∙ ap (λ z. z ++ (h.1 ++ 41 ∷ [])) (sym inner.2)
        ∙ sym (append_assoc h.0 h.1 (41 ∷ []))
        ∙ ap (λ z. z ++ 41 ∷ []) (sym h.2) in
        subst P (same_Some (frames_with (frame_with f.products (x ∷ f.factors)) outer) st e)
        (subst Q text (add_factor (frames_with f outer) (inner.0 ++ inner.1) (40 ∷ h.1 ++ 41 ∷ []) x (inner.0, inner.1, refl, inner.4, inner.3)
        (one_atom (grouped (frame_spells ps fs h.1 x h.4 c)))))

-- the byte of an atom spells it
atom_spelled : (k : ℕ) (e : Expression) → atom_of k ≡ Some e → SpellsExpression atom_rank (k ∷ []) e
atom_spelled k e = first (k == 97) refl
  where
    is : (n : ℕ) (x : Expression) → (k == n) ≡ true → SpellsExpression atom_rank (n ∷ []) x → Some x ≡ Some e → SpellsExpression atom_rank (k ∷ []) e
    is n x same d made =
        let P : ℕ → Type 0 = λ z. SpellsExpression atom_rank (z ∷ []) e in
        let Q : Expression → Type 0 = λ z. SpellsExpression atom_rank (n ∷ []) z in
        subst P (sym (eqb-true k n same)) (subst Q (same_Some x e made) d)

    fourth : (v : Bool) → (k == 49) ≡ v → (if v then Some empty_word else None) ≡ Some e → SpellsExpression atom_rank (k ∷ []) e
    fourth true same made = is 49 empty_word same by_one made
    fourth false same made = absurd (cc)

    third : (v : Bool) → (k == 48) ≡ v → (if v then Some no_word else if k == 49 then Some empty_word else None) ≡ Some e → SpellsExpression atom_rank (k ∷ []) e
    third true same made = is 48 no_word same by_zero made
    third false same made = fourth (k == 49) refl made

    second : (v : Bool) → (k == 98) ≡ v → (if v then Some (one_letter b_letter) else if k == 48 then Some no_word else if k == 49 then Some empty_word else None) ≡ Some e
        → SpellsExpression atom_rank (k ∷ []) e
    second true same made = is 98 (one_letter b_letter) same by_b made
    second false same made = third (k == 48) refl made

    first : (v : Bool) → (k == 97) ≡ v
        → (if v then Some (one_letter a_letter) else if k == 98 then Some (one_letter b_letter) else if k == 48 then Some no_word else if k == 49 then Some empty_word else None) ≡ Some e
        → SpellsExpression atom_rank (k ∷ []) e
    first true same made = is 97 (one_letter a_letter) same by_a made
    first false same made = second (k == 98) refl made

mark_in : (k : ℕ) (st st' : Frames) (bs : List ℕ) → InState st bs → on_mark k st ≡ Some st' → InState st' (bs ++ k ∷ [])
mark_in k st st' bs h = first (k == 42) refl
  where
    at : (n : ℕ) → (k == n) ≡ true → InState st' (bs ++ n ∷ []) → InState st' (bs ++ k ∷ [])
    at n e i = let P : ℕ → Type 0 = λ z. InState st' (bs ++ z ∷ []) in subst P (sym (eqb-true k n e)) i

    fourth : (v : Bool) → (k == 41) ≡ v → (if v then on_close st.now.products st.now.factors st.outer else None) ≡ Some st' → InState st' (bs ++ k ∷ [])
    fourth true e z = at 41 e (close_in st.now.products st.now.factors st.outer bs st' h z)
    fourth false e z = absurd (cc)

    third : (v : Bool) → (k == 40) ≡ v → (if v then on_open st else if k == 41 then on_close st.now.products st.now.factors st.outer else None) ≡ Some st' → InState st' (bs ++ k ∷ [])
    third true e z =
        at 40 e (let P : Frames → Type 0 = λ s. InState s (bs ++ 40 ∷ []) in subst P (same_Some (frames_with empty_frame (st.now ∷ st.outer)) st' z) (open_in st bs h))
    third false e z = fourth (k == 41) refl z

    second : (v : Bool) → (k == 43) ≡ v
        → (if v then on_plus st.now.products st.now.factors st.outer else if k == 40 then on_open st else if k == 41 then on_close st.now.products st.now.factors st.outer else None) ≡ Some st'
        → InState st' (bs ++ k ∷ [])
    second true e z = at 43 e (plus_in st.now.products st.now.factors st.outer bs st' h z)
    second false e z = third (k == 40) refl z

    first : (v : Bool) → (k == 42) ≡ v
        → (if v then on_star st.now.products st.now.factors st.outer else if k == 43 then on_plus st.now.products st.now.factors st.outer
        else if k == 40 then on_open st else if k == 41 then on_close st.now.products st.now.factors st.outer else None) ≡ Some st'
        → InState st' (bs ++ k ∷ [])
    first true e z = at 42 e (star_in st.now.products st.now.factors st.outer bs st' h z)
    first false e z = second (k == 43) refl z

-- one byte
byte_in : (k : ℕ) (st st' : Frames) (bs : List ℕ) → InState st bs → on_byte k st ≡ Some st' → InState st' (bs ++ k ∷ [])
byte_in k st st' bs h = go (atom_of k) refl
  where
    go : (o : Option Expression) → atom_of k ≡ o → on_atom o k st ≡ Some st' → InState st' (bs ++ k ∷ [])
    go None is w = mark_in k st st' bs h w
    go (Some e) is w =
        let P : Frames → Type 0 = λ s. InState s (bs ++ k ∷ []) in
        subst P (same_Some (with_factor e st) st' w) (add_factor st bs (k ∷ []) e h (one_atom (atom_spelled k e is)))

pub bytes_in : (xs : List ℕ) (st st' : Frames) (bs : List ℕ) → InState st bs → on_bytes xs st ≡ Some st' → InState st' (bs ++ xs)
bytes_in [] st st' bs h e =
    let P : Frames → Type 0 = λ s. InState s bs in
    let Q : List ℕ → Type 0 = InState st' in
    subst Q (sym (append-nil bs)) (subst P (same_Some st st' e) h)
bytes_in (x ∷ xs) st st' bs h e = go (on_byte x st) refl e (λ s i f. bytes_in xs s st' (bs ++ x ∷ []) i f)
  where
    go : (o : Option Frames) → on_byte x st ≡ o → option_and_then (on_bytes xs) o ≡ Some st' → ((s : Frames) → InState s (bs ++ x ∷ []) → on_bytes xs s ≡ Some st' → InState st' ((bs ++ x ∷ []) ++ xs)) → InState st' (bs ++ x ∷ xs)
    go None s e ih = absurd (cc)
    go (Some s) w e ih = let Q : List ℕ → Type 0 = InState st' in subst Q (append_assoc bs (x ∷ []) xs) (ih s (byte_in x st s bs h w) e)

-- what is read is spelled
pub sound : (s : List ℕ) (e : Expression) → expression_read s ≡ Some e → SpellsExpression sum_rank s e
sound s e r = go (on_bytes s no_frames) refl r
  where
    ends : (st : Frames) (outer : List Frame) → st.outer ≡ outer → InState st s → whole_sum outer st.now ≡ Some e → SpellsExpression sum_rank s e
    ends st [] o i w =
        let none : i.0 ≡ [] = subst (λ fs. Outer fs i.0) o i.3 in
        let text : i.1 ≡ s = ap (λ z. z ++ i.1) (sym none) ∙ sym i.2 in
        subst (λ z. SpellsExpression sum_rank z e) text (frame_spells st.now.products st.now.factors i.1 e i.4 w)
    ends st (f ∷ fs) o i w = absurd (cc)

    go : (o : Option Frames) → on_bytes s no_frames ≡ o → option_and_then (λ st. whole_sum st.outer st.now) o ≡ Some e → SpellsExpression sum_rank s e
    go None w r = absurd (cc)
    go (Some st) w r = ends st st.outer refl (bytes_in s no_frames st [] ([], [], refl, refl, ([], [], refl, refl, refl)) w) r

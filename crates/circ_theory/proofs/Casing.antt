-- Case lists and hidden sorts.
use Rattle.std.proofs.Common.{◌≡◌, ◌↔◌, ◌≤◌, ◌<◌, ℕ, zero, suc, Bool, true, false, ◌==◌, ◌||◌, nat_eq, IsTrue, List, [], ◌∷◌, map, find, length, refl}
use Rattle.std.proofs.Common.{◌⊎◌, inl, inr, ap, sym, ◌∙◌, arith}
use Rattle.std.specs.List.{list_any, Contains}
use Rattle.std.specs.Map.{lookup}
use Rattle.std.specs.Option.{option_map}
use Rattle.std.proofs.lemmas.Bool.{eqb-true, eq-eqb}
use Rattle.std.proofs.lemmas.List.{length-map}
use Rattle.std.proofs.lemmas.Map.Steps.{length-le_from_distinct_below}
use Rattle.circ_theory.specs.Limits.{sort_limit}
use Rattle.circ_theory.specs.Theory.{Theory, Derivative, CaseList, IsHidden, IsVisible}
use Rattle.circ_theory.specs.WellFormed.{IsWellFormed}
use Rattle.circ_theory.specs.Observing.{case_list, is_hidden}

pub contains_next : {X : Type 0} (x y : X) (xs : List X) → Contains xs y → Contains (x ∷ xs) y
contains_next x y xs (k, h, e) = (suc k, omega arith, e)

pub contains_first : {X : Type 0} (x : X) (xs : List X) → Contains (x ∷ xs) x
contains_first x xs = (0, omega arith, refl)

sorts_exist : (n : ℕ) (ls : List CaseList) → ((l : CaseList) → Contains ls l → l.sort < n) → (q : ℕ) → list_any (nat_eq q) (map (λ l. l.sort) ls) ≡ true → q < n
sorts_exist n [] h q e = absurd (cc)
sorts_exist n (l ∷ ls) h q e = go (sorts_exist n ls (λ m c. h m (contains_next l m ls c)) q) (q == l.sort) refl
  where
    go : (list_any (nat_eq q) (map (λ l. l.sort) ls) ≡ true → q < n) → (b : Bool) → (q == l.sort) ≡ b → q < n
    go ih true f = let same = eqb-true q l.sort f in let there = h l (contains_first l ls) in omega arith
    go ih false f = ih (rw f at e)

-- there are no more case lists than sorts
pub few_lists : (th : Theory) → IsWellFormed th → length th.cases ≤ sort_limit
few_lists th w =
    let ss = map (λ l. l.sort) th.cases in
    let n = length th.signature.sorts in
    omega (arith, length-map th.cases (λ l. l.sort), w.few_sorts, length-le_from_distinct_below ss n w.one_list (sorts_exist n th.cases (λ l c. (w.cases l c).sort)))

-- the constants kept under a sort
pub cases_found : {V : Type 0} (items : V → List ℕ) (es : List (ℕ × V)) (s : ℕ)
    → option_map items (lookup (nat_eq s) es) ≡ option_map (λ l. l.constants) (find (λ l. s == l.sort) (map (λ e. case_list e.0 (items e.1)) es))
cases_found items [] s = refl
cases_found items (e ∷ es) s = go (cases_found items es s) (s == e.0) refl
  where
    go : option_map items (lookup (nat_eq s) es) ≡ option_map (λ l. l.constants) (find (λ l. s == l.sort) (map (λ e. case_list e.0 (items e.1)) es))
        → (b : Bool) → (s == e.0) ≡ b
        → option_map items (lookup (nat_eq s) (e ∷ es)) ≡ option_map (λ l. l.constants) (find (λ l. s == l.sort) (map (λ e. case_list e.0 (items e.1)) (e ∷ es)))
    go ih true f = rw f refl
    go ih false f = rw f ih

-- the hole of a listed derivative
hole_there : (ds : List Derivative) (s : ℕ) → list_any (λ d. s == d.hole) ds ≡ true → (d : Derivative) × (Contains ds d × (d.hole ≡ s))
hole_there [] s e = absurd (cc)
hole_there (d ∷ ds) s e = go (hole_there ds s) (s == d.hole) refl
  where
    go : (list_any (λ d. s == d.hole) ds ≡ true → (c : Derivative) × (Contains ds c × (c.hole ≡ s))) → (b : Bool) → (s == d.hole) ≡ b
        → (c : Derivative) × (Contains (d ∷ ds) c × (c.hole ≡ s))
    go ih true f = (d, (contains_first d ds, sym (eqb-true s d.hole f)))
    go ih false f = let r = ih (rw f at e) in (r.0, (contains_next d r.0 ds r.1.0, r.1.1))

there_hole : (ds : List Derivative) (s : ℕ) (d : Derivative) → Contains ds d → d.hole ≡ s → list_any (λ c. s == c.hole) ds ≡ true
there_hole [] s d c e = absurd (omega (arith, c.1))
there_hole (x ∷ ds) s d (zero, h, g) e = let same : (s == x.hole) ≡ true = eq-eqb s x.hole (sym e ∙ ap (λ c. c.hole) (sym g)) in rw same refl
there_hole (x ∷ ds) s d (suc k, h, g) e = go (there_hole ds s d (k, omega arith, g) e) (s == x.hole)
  where
    go : list_any (λ c. s == c.hole) ds ≡ true → (b : Bool) → (b || list_any (λ c. s == c.hole) ds) ≡ true
    go ih true = refl
    go ih false = ih

-- the test tells whether a sort is hidden
pub hidden_tells : (th : Theory) (s : ℕ) → IsTrue (is_hidden th s) ↔ IsHidden th s
hidden_tells th s = (
  (λ e. let r = hole_there th.derivatives s e in record { derivative = r.0; listed = r.1.0; hole = r.1.1 }),
  (λ h. there_hole th.derivatives s h.derivative h.listed h.hole),
)

pub hidden_or_visible : (th : Theory) (s : ℕ) → IsHidden th s ⊎ IsVisible th s
hidden_or_visible th s = go (is_hidden th s) (hidden_tells th s)
  where
    go : (b : Bool) → (IsTrue b ↔ IsHidden th s) → IsHidden th s ⊎ IsVisible th s
    go true e = inl (e.0 refl)
    go false e = inr (λ h. absurd (let z = e.1 h in cc))

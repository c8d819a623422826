-- Holes are found under the operators above them.
use Rattle.std.proofs.Common.{◌≡◌, ◌≤◌, ◌<◌, ◌+◌, ◌==◌, ℕ, Bool, true, false, if◌then◌else◌, Result, Ok, Err, OnOk, List, [], ◌∷◌, ◌++◌, zero, suc, Some, ◌⊎◌, inl, inr, length, refl, sym, ap, subst, ◌∙◌, arith}
use Rattle.std.specs.List.{slice_get, Contains}
use Rattle.std.specs.Option.{option_map}
use Rattle.std.proofs.lemmas.Bool.{cases_lt, eq-eqb}
use Rattle.std.proofs.lemmas.List.Elements.{Contains-append_left, Contains-append_right}
use Rattle.std.proofs.lemmas.Option.{same_Some, slice_get_within}
use Rattle.circ_term.specs.Tree.{Tree, Trees, Var, App, list_of, trees_of, at}
use Rattle.circ_term.proofs.Trees.{list_of-trees_of}
use Rattle.circ_term.proofs.Paths.{nowhere, Down, down}
use Rattle.circ_theory.proofs.Casing.{contains_first}
use Rattle.circ_theory.specs.Theory.{Derivative}
use Rattle.circ_needs.specs.declared.observers.Look.{Look}
use Rattle.circ_needs.specs.Observing.{Looks, looks_at, look, Adds, IsHole, IsFound, IsArgFound, AreArgsFound, IsRow, AreFound, AreFoundTo}

pub found_later : (old new : Looks) → Adds old new → (x : Look) (t : Tree) → IsFound x old t → IsFound x new t
found_later old new adds x t h = λ r i f s k ts e g. adds f (look x.number (x.steps + length r)) (h r i f s k ts e g)

pub arg_found_later : (old new : Looks) → Adds old new → (f : ℕ) (x : Look) (t : Tree) → IsArgFound f x old t → IsArgFound f x new t
arg_found_later old new adds f x t h = ((λ z. adds f x (h.0 z)), found_later old new adds (look x.number (x.steps + 1)) t h.1)

-- a variable has nothing below it
pub variable_found : (x : Look) (m : Looks) (n s : ℕ) → IsFound x m (Var n s)
variable_found x m n s = λ r i f k h ts e g. go r f k ts e
  where
    go : (r : List ℕ) (f k : ℕ) (ts : Trees) → at (Var n s) r ≡ Some (App f k ts) → {X : Type 0} → X
    go [] f k ts e = absurd (let z = same_Some (Var n s) (App f k ts) e in cc)
    go (j ∷ r) f k ts e = nowhere r (App f k ts) e

pub application_found : (x : Look) (m : Looks) (f s : ℕ) (ts : Trees) → AreArgsFound f x m (list_of ts) → IsFound x m (App f s ts)
application_found x m f s ts all = go
  where
    go : IsFound x m (App f s ts)
    go [] i g k h us e z =
        let d : Down (App f s ts) i [] (Var 0 h) = down (App f s ts) i [] (Var 0 h) z in
        let same : App f s ts ≡ App g k us = same_Some (App f s ts) (App g k us) e in
        let op : f ≡ g = cc in
        let args : ts ≡ d.args = let y = d.is in cc in
        let hole : IsHole d.arg = (h, same_Some d.arg (Var 0 h) d.there) in
        let P : ℕ → Type 0 = λ n. Contains (looks_at m n) x in
        let n : x.steps ≡ x.steps + 0 = omega arith in
        let Q : ℕ → Type 0 = λ n. Contains (looks_at m g) (look x.number n) in
        subst Q n (subst P op ((all i d.arg (ap (λ y. slice_get (list_of y) i) args ∙ d.got)).0 hole))
    go (j ∷ r) i g k h us e z =
        let d : Down (App f s ts) j r (App g k us) = down (App f s ts) j r (App g k us) e in
        let b : Down (App f s ts) j (r ++ i ∷ []) (Var 0 h) = down (App f s ts) j (r ++ i ∷ []) (Var 0 h) z in
        let args : ts ≡ d.args = let y = d.is in cc in
        let args_b : ts ≡ b.args = let y = b.is in cc in
        let got : slice_get (list_of ts) j ≡ Some d.arg = ap (λ y. slice_get (list_of y) j) args ∙ d.got in
        let same : b.arg ≡ d.arg = same_Some b.arg d.arg (sym b.got ∙ ap (λ y. slice_get (list_of y) j) (sym args_b) ∙ got) in
        let P : Tree → Type 0 = λ y. at y (r ++ i ∷ []) ≡ Some (Var 0 h) in
        let n : x.steps + 1 + length r ≡ x.steps + suc (length r) = omega arith in
        let Q : ℕ → Type 0 = λ n. Contains (looks_at m g) (look x.number n) in
        subst Q n ((all j d.arg got).1 r i g k h us d.there (subst P same b.there))

-- the first arguments, and one more
pub args_next : (f : ℕ) (x : Look) (old new : Looks) (ts : List Tree) (i : ℕ) (t : Tree) → slice_get ts i ≡ Some t → Adds old new → IsArgFound f x new t
    → ((k : ℕ) (u : Tree) → k < i → slice_get ts k ≡ Some u → IsArgFound f x old u)
    → (k : ℕ) (u : Tree) → k < i + 1 → slice_get ts k ≡ Some u → IsArgFound f x new u
args_next f x old new ts i t e adds found each k u l z = elim (cases_lt k i) [
  | inl h ↦ arg_found_later old new adds f x u (each k u h z)
  | inr h ↦
      let same : i ≡ k = omega (arith, l, h) in
      subst (IsArgFound f x new) (same_Some t u (sym e ∙ ap (slice_get ts) same ∙ z)) found
]

pub next_found : (ds : List Derivative) (n : ℕ) (old new : Looks) → Adds old new
    → ((d : Derivative) → slice_get ds n ≡ Some d → IsFound (look n 1) new d.body) → AreFoundTo ds n old → AreFoundTo ds (n + 1) new
next_found ds n old new adds here each k d l e = elim (cases_lt k n) [
  | inl h ↦ found_later old new adds (look k 1) d.body (each k d h e)
  | inr h ↦
      let same : n ≡ k = omega (arith, l, h) in
      let P : ℕ → Type 0 = λ j. IsFound (look j 1) new d.body in
      subst P same (here d (ap (slice_get ds) same ∙ e))
]

pub all_found : (ds : List Derivative) (n : ℕ) (m : Looks) → length ds ≤ n → AreFoundTo ds n m → AreFound ds m
all_found ds n m l h = λ f k d e r i s v ts a b. h k d (omega (arith, l, slice_get_within ds k d e)) e r i f s v ts a b

pub application_by : (x : Look) (m : Looks) (f s : ℕ) (us : List Tree) (t : Tree) → App f s (trees_of us) ≡ t → AreArgsFound f x m us → IsFound x m t
application_by x m f s us t e all =
    let P : List Tree → Type 0 = AreArgsFound f x m in
    subst (IsFound x m) e (application_found x m f s (trees_of us) (subst P (sym (list_of-trees_of us)) all))

pub on_ok : {X E P Q : Type 0} (r : Result X E) → (P → Q) → OnOk r P → OnOk r Q
on_ok (Ok x) f p = f p
on_ok (Err e) f p = tt

pub on_ok_both : {X E P Q R : Type 0} (r : Result X E) → (P → Q → R) → OnOk r P → OnOk r Q → OnOk r R
on_ok_both (Ok x) f p q = f p q
on_ok_both (Err e) f p q = tt

-- the body is that of the derivative
pub body_found : (ds : List Derivative) (n : ℕ) (m : Looks) (body : Tree) → Some body ≡ option_map (λ d. d.body) (slice_get ds n) → IsFound (look n 1) m body
    → (d : Derivative) → slice_get ds n ≡ Some d → IsFound (look n 1) m d.body
body_found ds n m body b f d e = subst (IsFound (look n 1) m) (same_Some body d.body (b ∙ ap (option_map (λ d. d.body)) e)) f

module _ (old new : Looks) (op : ℕ) (x : Look) (noted : (f : ℕ) → looks_at new f ≡ (if f == op then looks_at old f ++ x ∷ [] else looks_at old f)) where
  pub noted_adds : Adds old new
  noted_adds f y c = let P : List Look → Type 0 = λ ys. Contains ys y in subst P (sym (noted f)) (go (f == op))
    where
      go : (b : Bool) → Contains (if b then looks_at old f ++ x ∷ [] else looks_at old f) y
      go true = Contains-append_left (looks_at old f) (x ∷ []) y c
      go false = c

  pub noted_hole : (t : Tree) → IsHole t → IsArgFound op x new t
  noted_hole t h =
      let P : List Look → Type 0 = λ ys. Contains ys x in
      let e : looks_at new op ≡ looks_at old op ++ x ∷ [] = noted op ∙ ap (λ b. if b then looks_at old op ++ x ∷ [] else looks_at old op) (eq-eqb op op refl) in (
        (λ _. subst P (sym e) (Contains-append_right (looks_at old op) (x ∷ []) x (contains_first x []))),
        subst (IsFound (look x.number (x.steps + 1)) new) (sym h.1) (variable_found (look x.number (x.steps + 1)) new 0 h.0),
      )

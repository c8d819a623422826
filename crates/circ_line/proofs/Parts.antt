-- Texts in parts: what is read part by part.
use Rattle.std.specs.Prelude.{◌≡◌, ℕ, ◌==◌, List, [], ◌∷◌, ◌++◌, refl, Option, Some, None, Bool, true, false, if◌then◌else◌}
use Rattle.std.specs.Option.{option_and_then, option_map}
use Rattle.std.proofs.Common.{sym, ◌∙◌, ap, subst, append_assoc, append-nil}
use Rattle.std.proofs.lemmas.Option.{same_Some}
use Rattle.std.proofs.lemmas.Bool.{eqb-true}
use Rattle.circ_line.specs.Front.{rest_after, seq, ended, whole, then_whole, after_or}
use Rattle.circ_line.proofs.Many.{IsItem}

-- What is read is the text of a fitting value, and each such text is read.
pub record IsText {X : Type 0} (f : X → List ℕ) (read : List ℕ → Option X) (Fits : X → Type 0) : Type 0 where
  pub gives : (bs : List ℕ) (x : X) → read bs ≡ Some x → (bs ≡ f x) × Fits x
  pub again : (x : X) → Fits x → read (f x) ≡ Some x

-- before any bytes
abbrev pub Any : List ℕ → Type 0
Any r = Unit {0}

pub bind_some : {A B : Type 0} (f : A → Option B) (o : Option A) (y : B) → option_and_then f o ≡ Some y → (x : A) × (o ≡ Some x) × (f x ≡ Some y)
bind_some f None y e = absurd (cc)
bind_some f (Some x) y e = (x, refl, e)

pub map_some : {A B : Type 0} (f : A → B) (o : Option A) (y : B) → option_map f o ≡ Some y → (x : A) × (o ≡ Some x) × (f x ≡ y)
map_some f None y e = absurd (cc)
map_some f (Some x) y e = (x, refl, same_Some (f x) y e)

pub after_gives : (t bs r : List ℕ) → rest_after t bs ≡ Some r → bs ≡ t ++ r
after_gives [] bs r e = same_Some bs r e
after_gives (c ∷ cs) [] r e = absurd (cc)
after_gives (c ∷ cs) (b ∷ bs) r e = go (b == c) (eqb-true b c) e (after_gives cs bs r)
  where
    go : (t : Bool) → (t ≡ true → b ≡ c) → (if t then rest_after cs bs else None) ≡ Some r → (rest_after cs bs ≡ Some r → bs ≡ cs ++ r) → b ∷ bs ≡ c ∷ cs ++ r
    go true same e ih = ap (λ x. x ∷ bs) (same refl) ∙ ap (λ s. c ∷ s) (ih e)
    go false same e ih = absurd (cc)

-- either the text comes first, or the other is read
pub or_gives : {X P : Type 0} (t bs : List ℕ) (read : List ℕ → Option X) (other : Option X) (x : X) → after_or (rest_after t bs) read other ≡ Some x
    → ((r : List ℕ) → bs ≡ t ++ r → read r ≡ Some x → P) → (other ≡ Some x → P) → P
or_gives {X = X} {P = P} t bs read other x e first second = go (rest_after t bs) refl e
  where
    go : (o : Option (List ℕ)) → rest_after t bs ≡ o → after_or o read other ≡ Some x → P
    go None q e = second e
    go (Some r) q e = first r (after_gives t bs r q) e

ended_gives : {X : Type 0} (p : X × List ℕ) (x : X) → ended p ≡ Some x → p ≡ (x, [])
ended_gives (y, []) x e = ap (λ z. (z, [])) (same_Some y x e)
ended_gives (y, b ∷ bs) x e = absurd (cc)

module _ {X : Type 0} {f : X → List ℕ} {item : List ℕ → Option (X × List ℕ)} {Fits : X → Type 0} {Next : List ℕ → Type 0} (is : IsItem f item Fits Next) where
  pub whole_text : Next [] → IsText f (whole item) Fits
  whole_text end = record { gives = gives; again = again }
    where
      gives : (bs : List ℕ) (x : X) → whole item bs ≡ Some x → (bs ≡ f x) × Fits x
      gives bs x e =
          let p : (q : X × List ℕ) × (item bs ≡ Some q) × (ended q ≡ Some x) = bind_some ended (item bs) x e in
          let g : (bs ≡ f x ++ []) × Fits x = is.gives bs x [] (p.1 ∙ ap (λ q. Some q) (ended_gives p.0 x p.2)) in
          (g.0 ∙ append-nil (f x), g.1)

      again : (x : X) → Fits x → whole item (f x) ≡ Some x
      again x fit = ap (whole item) (sym (append-nil (f x))) ∙ ap (option_and_then ended) (is.again x [] fit end)

  pub then_text : {Y : Type 0} {g : Y → List ℕ} {read : List ℕ → Option Y} {Good : Y → Type 0} → IsText g read Good → ((y : Y) → Next (g y))
      → IsText (λ p. f p.0 ++ g p.1) (then_whole item read) (λ p. Fits p.0 × Good p.1)
  then_text {Y = Y} {g = g} {read = read} {Good = Good} rest meets = record { gives = gives; again = again }
    where
      gives : (bs : List ℕ) (p : X × Y) → then_whole item read bs ≡ Some p → (bs ≡ f p.0 ++ g p.1) × (Fits p.0 × Good p.1)
      gives bs p e =
          let b : (q : X × List ℕ) × (item bs ≡ Some q) × (option_map (λ y. (q.0, y)) (read q.1) ≡ Some p) =
          bind_some (λ q. option_map (λ y. (q.0, y)) (read q.1)) (item bs) p e in
          let m : (y : Y) × (read b.0.1 ≡ Some y) × ((b.0.0, y) ≡ p) = map_some (λ y. (b.0.0, y)) (read b.0.1) p b.2 in
          let front : (bs ≡ f b.0.0 ++ b.0.1) × Fits b.0.0 = is.gives bs b.0.0 b.0.1 b.1 in
          let after : (b.0.1 ≡ g m.0) × Good m.0 = rest.gives b.0.1 m.0 m.1 in
          let P : X × Y → Type 0 = λ p. (bs ≡ f p.0 ++ g p.1) × (Fits p.0 × Good p.1) in
          subst P m.2 (front.0 ∙ ap (λ s. f b.0.0 ++ s) after.0, (front.1, after.1))

      again : (p : X × Y) → Fits p.0 × Good p.1 → then_whole item read (f p.0 ++ g p.1) ≡ Some p
      again p fit =
          ap (option_and_then (λ q. option_map (λ y. (q.0, y)) (read q.1))) (is.again p.0 (g p.1) fit.0 (meets p.1))
          ∙ ap (option_map (λ y. (p.0, y))) (rest.again p.1 fit.1)

  pub seq_item : {Y : Type 0} {g : Y → List ℕ} {jtem : List ℕ → Option (Y × List ℕ)} {Good : Y → Type 0} {Then : List ℕ → Type 0}
      → IsItem g jtem Good Then → ((y : Y) (r : List ℕ) → Then r → Next (g y ++ r))
      → IsItem (λ p. f p.0 ++ g p.1) (seq item jtem) (λ p. Fits p.0 × Good p.1) Then
  seq_item {Y = Y} {g = g} {jtem = jtem} {Good = Good} {Then = Then} second meets = record { gives = gives; again = again }
    where
      gives : (bs : List ℕ) (p : X × Y) (r : List ℕ) → seq item jtem bs ≡ Some (p, r) → (bs ≡ (f p.0 ++ g p.1) ++ r) × (Fits p.0 × Good p.1)
      gives bs p r e =
          let b : (q : X × List ℕ) × (item bs ≡ Some q) × (option_map (λ s. ((q.0, s.0), s.1)) (jtem q.1) ≡ Some (p, r)) =
          bind_some (λ q. option_map (λ s. ((q.0, s.0), s.1)) (jtem q.1)) (item bs) (p, r) e in
          let m : (s : Y × List ℕ) × (jtem b.0.1 ≡ Some s) × (((b.0.0, s.0), s.1) ≡ (p, r)) = map_some (λ s. ((b.0.0, s.0), s.1)) (jtem b.0.1) (p, r) b.2 in
          let front : (bs ≡ f p.0 ++ b.0.1) × Fits p.0 = is.gives bs p.0 b.0.1 (b.1 ∙ ap (λ q. Some (q.0.0, b.0.1)) m.2) in
          let rest : (b.0.1 ≡ g p.1 ++ r) × Good p.1 = second.gives b.0.1 p.1 r (m.1 ∙ ap (λ q. Some (q.0.1, q.1)) m.2) in
          (front.0 ∙ ap (λ s. f p.0 ++ s) rest.0 ∙ sym (append_assoc (f p.0) (g p.1) r), (front.1, rest.1))

      again : (p : X × Y) (r : List ℕ) → Fits p.0 × Good p.1 → Then r → seq item jtem ((f p.0 ++ g p.1) ++ r) ≡ Some (p, r)
      again p r fit n =
          ap (option_and_then (λ q. option_map (λ s. ((q.0, s.0), s.1)) (jtem q.1)))
          (ap item (append_assoc (f p.0) (g p.1) r) ∙ is.again p.0 (g p.1 ++ r) fit.0 (meets p.1 r n))
          ∙ ap (option_map (λ s. ((p.0, s.0), s.1))) (second.again p.1 r fit.1 n)

-- what one kind of line or link is read as, after its word
pub kind_gives : {X Y : Type 0} {f : X → List ℕ} {read : List ℕ → Option X} {Fits : X → Type 0} (is : IsText f read Fits)
    (h : Y → List ℕ) (Good : Y → Type 0) (to : X → Y) (t bs r : List ℕ) (y : Y)
    → ((x : X) → t ++ f x ≡ h (to x)) → ((x : X) → Fits x → Good (to x))
    → bs ≡ t ++ r → option_map to (read r) ≡ Some y → (bs ≡ h y) × Good y
kind_gives {X = X} {Y = Y} {f = f} {read = read} {Fits = Fits} is h Good to t bs r y same good first e =
    let m : (x : X) × (read r ≡ Some x) × (to x ≡ y) = map_some to (read r) y e in
    let g : (r ≡ f m.0) × Fits m.0 = is.gives r m.0 m.1 in
    let P : Y → Type 0 = λ y. (bs ≡ h y) × Good y in
    subst P m.2 (first ∙ ap (λ s. t ++ s) g.0 ∙ same m.0, good m.0 g.1)

-- Words of which none repeats another.
use Rattle.std.specs.Prelude.{◌≡◌, ℕ, ◌+◌, ◌<◌, ◌||◌, ◌++◌, zero, suc, List, [], ◌∷◌, Bool, true, false, nat_lt, length, map, position, Option, Some, None, refl, if◌then◌else◌}
use Rattle.std.specs.List.{AllByRecursion, list_any, position_or_len}
use Rattle.std.proofs.Common.{sym, ◌∙◌, ap, subst, arith}
use Rattle.std.proofs.lemmas.Bool.{ltb-true, lt-ltb, le-ltb}
use Rattle.circ_statement.specs.Words.{Word}
use Rattle.circ_auto.specs.Reading.{is_word}
use Rattle.circ_auto.specs.Machine.{AreAllDifferent}
use Rattle.circ_auto.specs.Parts.{or_place, repeat_after}

-- the word is not there
abbrev pub Lacks : List Word → Word → Type 0
Lacks ws w = AllByRecursion (λ v. is_word w v ≡ false) ws

length_or : (p : Word → Bool) (ws : List Word) → AllByRecursion (λ v. p v ≡ false) ws → position_or_len p ws ≡ length ws
length_or p [] all = refl
length_or p (w ∷ ws) all =
    let e : position_or_len p ws ≡ length ws = length_or p ws all.1 in
    let s : 1 + length ws ≡ suc (length ws) = omega arith in
    rw all.0 (ap (λ k. 1 + k) e ∙ s)

pub no_place : (ws : List Word) (w : Word) → Lacks ws w → position (is_word w) ws ≡ None
no_place ws w all = rw (length_or (is_word w) ws all, le-ltb (length ws) (length ws) (omega arith)) refl

place_below : (p : Word → Bool) (v : Word) (ws : List Word) → p v ≡ true → position_or_len p (v ∷ ws) ≡ 0
place_below p v ws e = rw e refl

pub lacks_no_place : (ws : List Word) (w : Word) → position (is_word w) ws ≡ None → Lacks ws w
lacks_no_place [] w e = tt
lacks_no_place (v ∷ ws) w e = go (λ r. lacks_no_place ws w r) (is_word w v) refl
  where
    rest : is_word w v ≡ false → position (is_word w) ws ≡ None
    rest f = at (nat_lt (position_or_len (is_word w) ws) (length ws)) refl
      where
        at : (t : Bool) → nat_lt (position_or_len (is_word w) ws) (length ws) ≡ t → position (is_word w) ws ≡ None
        at false g = rw g refl
        at true g =
            let x = position_or_len (is_word w) ws in
            let l : x < length ws = ltb-true x (length ws) g in
            let h : nat_lt (1 + x) (suc (length ws)) ≡ true = lt-ltb (1 + x) (suc (length ws)) (omega (arith, l)) in
            absurd (let z = rw (f, h) at e in cc)

    go : (position (is_word w) ws ≡ None → Lacks ws w) → (t : Bool) → is_word w v ≡ t → Lacks (v ∷ ws) w
    go ih true f =
        let h : nat_lt 0 (suc (length ws)) ≡ true = lt-ltb 0 (suc (length ws)) (omega arith) in
        absurd (let z = rw (f, h) at e in cc)
    go ih false f = (f, ih (rest f))

lacks_joined : (xs ys : List Word) (w : Word) → Lacks xs w → Lacks ys w → Lacks (xs ++ ys) w
lacks_joined [] ys w a b = b
lacks_joined (x ∷ xs) ys w a b = (a.0, lacks_joined xs ys w a.1 b)

lacks_front : (xs ys : List Word) (w : Word) → Lacks (xs ++ ys) w → Lacks xs w × Lacks ys w
lacks_front [] ys w a = (tt, a)
lacks_front (x ∷ xs) ys w a = let h = lacks_front xs ys w a.1 in ((a.0, h.0), h.1)

-- each of the words is not among those before
abbrev pub AllLack : List Word → List Word → Type 0
AllLack before ws = AllByRecursion (λ w. Lacks before w) ws

split : (before : List Word) (v : Word) (ws : List Word) → AllLack (before ++ v ∷ []) ws → AllLack before ws × AllByRecursion (λ w. is_word w v ≡ false) ws
split before v [] a = (tt, tt)
split before v (w ∷ ws) a =
    let h = lacks_front before (v ∷ []) w a.0 in let r = split before v ws a.1 in ((h.0, r.0), (h.1.0, r.1))

joined : (before : List Word) (v : Word) (ws : List Word) → AllLack before ws → AllByRecursion (λ w. is_word w v ≡ false) ws → AllLack (before ++ v ∷ []) ws
joined before v [] a b = tt
joined before v (w ∷ ws) a b = (lacks_joined before (v ∷ []) w a.0 (b.0, tt), joined before v ws a.1 b.1)

pub none_repeats : (before ws : List Word) → repeat_after before ws ≡ None → AllLack before ws × AreAllDifferent ws
none_repeats before [] e = (tt, tt)
none_repeats before (w ∷ ws) e = go (λ h. none_repeats (before ++ w ∷ []) ws h) (position (is_word w) before) refl e
  where
    go : (repeat_after (before ++ w ∷ []) ws ≡ None → AllLack (before ++ w ∷ []) ws × AreAllDifferent ws)
        → (o : Option ℕ) → position (is_word w) before ≡ o → or_place o (repeat_after (before ++ w ∷ []) ws) ≡ None → AllLack before (w ∷ ws) × AreAllDifferent (w ∷ ws)
    go ih (Some n) f e = absurd (cc)
    go ih None f e =
        let h = ih e in
        let s = split before w ws h.0 in
        ((lacks_no_place before w f, s.0), (s.1, h.1))

pub repeats_none : (before ws : List Word) → AllLack before ws → AreAllDifferent ws → repeat_after before ws ≡ None
repeats_none before [] a d = refl
repeats_none before (w ∷ ws) a d = rw (no_place before w a.0) (repeats_none (before ++ w ∷ []) ws (joined before w ws a.1 d.0) d.1)

pub all_lack_none : (ws : List Word) → AllLack [] ws
all_lack_none [] = tt
all_lack_none (w ∷ ws) = (tt, all_lack_none ws)

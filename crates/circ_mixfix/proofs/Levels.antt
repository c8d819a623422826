-- Parentheses in token lists: how deep each token stands, and which tokens stand outside of all parentheses.
use Rattle.std.proofs.Common.{◌≡◌, ◌+◌, ◌++◌, ℕ, zero, suc, List, [], ◌∷◌, Bool, true, false, Option, Some, None, nat_eq, codes, sym, ◌∙◌, ap, refl, arith}
use Rattle.std.specs.Prelude.{if◌then◌else◌}
use Rattle.std.specs.Option.{option_and_then}
use Rattle.std.specs.Cmp.Lexicographic.{pointwise}

abbrev pub is_open : List ℕ → Bool
is_open w = pointwise nat_eq w (codes "(")

abbrev pub is_close : List ℕ → Bool
is_close w = pointwise nat_eq w (codes ")")

abbrev pub is_comma : List ℕ → Bool
is_comma w = pointwise nat_eq w (codes ",")

abbrev less : ℕ → Option ℕ
less zero = None
less (suc d) = Some d

abbrev outside : ℕ → Bool → Option ℕ
outside zero b = if b then None else Some 0
outside (suc d) b = Some (suc d)

-- the depth behind a token; none behind a parenthesis that closes nothing, and behind a token outside of all parentheses that passes the test
pub step : (List ℕ → Bool) → ℕ → List ℕ → Option ℕ
step p d w = if is_open w then Some (suc d) else if is_close w then less d else outside d (p w)

-- behind several tokens
abbrev pub walk : (List ℕ → Bool) → ℕ → List (List ℕ) → Option ℕ
walk p d [] = Some d
walk p d (w ∷ ws) = option_and_then (λ e. walk p e ws) (step p d w)

abbrev less_or_none : ℕ → ℕ
less_or_none zero = 0
less_or_none (suc d) = d

-- the depth behind a token, however deep
pub next : ℕ → List ℕ → ℕ
next d w = if is_open w then suc d else if is_close w then less_or_none d else d

abbrev one_outside : ℕ → Bool → ℕ
one_outside zero b = if b then 1 else 0
one_outside (suc d) b = 0

-- 1 for a token outside of all parentheses that passes the test
pub counted : (List ℕ → Bool) → ℕ → List ℕ → ℕ
counted p d w = if is_open w then 0 else if is_close w then 0 else one_outside d (p w)

-- how many there are
abbrev pub count : (List ℕ → Bool) → ℕ → List (List ℕ) → ℕ
count p d [] = 0
count p d (w ∷ ws) = counted p d w + count p (next d w) ws

-- ---- one token

step_deeper : (p r : List ℕ → Bool) (d k : ℕ) (w : List ℕ) → step p d w ≡ Some k → step r (suc d) w ≡ Some (suc k)
unfolding step
step_deeper p r d k w h = go (is_open w) (is_close w) d (p w) h
  where
    go : (a b : Bool) (d : ℕ) (c : Bool) → (if a then Some (suc d) else if b then less d else outside d c) ≡ Some k
        → (if a then Some (suc (suc d)) else if b then less (suc d) else outside (suc d) (r w)) ≡ Some (suc k)
    go true b d c h = let z : suc d ≡ k = cc in ap (λ x. Some (suc x)) z
    go false true zero c h = absurd (cc)
    go false true (suc d) c h = let z : d ≡ k = cc in ap (λ x. Some (suc x)) z
    go false false zero true h = absurd (cc)
    go false false zero false h = let z : 0 ≡ k = cc in ap (λ x. Some (suc x)) z
    go false false (suc d) c h = let z : suc d ≡ k = cc in ap (λ x. Some (suc x)) z

step_next : (p : List ℕ → Bool) (d k : ℕ) (w : List ℕ) → step p d w ≡ Some k → next d w ≡ k
unfolding step next
step_next p d k w h = go (is_open w) (is_close w) d (p w) h
  where
    go : (a b : Bool) (d : ℕ) (c : Bool) → (if a then Some (suc d) else if b then less d else outside d c) ≡ Some k
        → (if a then suc d else if b then less_or_none d else d) ≡ k
    go true b d c h = cc
    go false true zero c h = absurd (cc)
    go false true (suc d) c h = cc
    go false false zero true h = absurd (cc)
    go false false zero false h = cc
    go false false (suc d) c h = cc

step_passes : (p r : List ℕ → Bool) (d k : ℕ) (w : List ℕ) → step p d w ≡ Some k → counted r d w ≡ 0 → step r d w ≡ Some k
unfolding step counted
step_passes p r d k w h n = go (is_open w) (is_close w) d (p w) (r w) h n
  where
    go : (a b : Bool) (d : ℕ) (c e : Bool) → (if a then Some (suc d) else if b then less d else outside d c) ≡ Some k → (if a then 0 else if b then 0 else one_outside d e) ≡ 0
        → (if a then Some (suc d) else if b then less d else outside d e) ≡ Some k
    go true b d c e h n = h
    go false true d c e h n = h
    go false false zero true e h n = absurd (cc)
    go false false zero false true h n = absurd (omega arith)
    go false false zero false false h n = h
    go false false (suc d) c e h n = h

step_none : (p : List ℕ → Bool) (d k : ℕ) (w : List ℕ) → step p d w ≡ Some k → counted p d w ≡ 0
unfolding step counted
step_none p d k w h = go (is_open w) (is_close w) d (p w) h
  where
    go : (a b : Bool) (d : ℕ) (c : Bool) → (if a then Some (suc d) else if b then less d else outside d c) ≡ Some k → (if a then 0 else if b then 0 else one_outside d c) ≡ 0
    go true b d c h = refl
    go false true d c h = refl
    go false false zero true h = absurd (cc)
    go false false zero false h = refl
    go false false (suc d) c h = refl

pub counted_inside : (p : List ℕ → Bool) (d : ℕ) (w : List ℕ) → counted p (suc d) w ≡ 0
unfolding counted
counted_inside p d w = go (is_open w) (is_close w)
  where
    go : (a b : Bool) → (if a then 0 else if b then 0 else one_outside (suc d) (p w)) ≡ 0
    go true b = refl
    go false true = refl
    go false false = refl

-- parentheses, and a token that is none
pub step_open : (p : List ℕ → Bool) (d : ℕ) → step p d (codes "(") ≡ Some (suc d)
unfolding step
step_open p d = refl

pub step_close : (p : List ℕ → Bool) (d : ℕ) → step p (suc d) (codes ")") ≡ Some d
unfolding step
step_close p d = refl

pub step_close_nothing : (p : List ℕ → Bool) → step p 0 (codes ")") ≡ None
unfolding step
step_close_nothing p = refl

pub step_over : (p : List ℕ → Bool) (d : ℕ) (w : List ℕ) → is_open w ≡ false → is_close w ≡ false → p w ≡ false → step p d w ≡ Some d
unfolding step
step_over p d w a b c = rw (a, b, c) (go d)
  where
    go : (d : ℕ) → outside d false ≡ Some d
    go zero = refl
    go (suc d) = refl

pub step_inside : (p : List ℕ → Bool) (d : ℕ) (w : List ℕ) → is_open w ≡ false → is_close w ≡ false → step p (suc d) w ≡ Some (suc d)
unfolding step
step_inside p d w a b = rw (a, b) refl

pub step_stops : (p : List ℕ → Bool) (w : List ℕ) → is_open w ≡ false → is_close w ≡ false → p w ≡ true → step p 0 w ≡ None
unfolding step
step_stops p w a b c = rw (a, b, c) refl

-- where each token outside is a stop, only an opening parenthesis is none
abbrev pub always : List ℕ → Bool
always w = true

pub step_always : (w : List ℕ) → is_open w ≡ false → step always 0 w ≡ None
unfolding step
step_always w a = rw a (go (is_close w))
  where
    go : (b : Bool) → (if b then less 0 else outside 0 true) ≡ None
    go true = refl
    go false = refl

pub next_over : (d : ℕ) (w : List ℕ) → is_open w ≡ false → is_close w ≡ false → next d w ≡ d
unfolding next
next_over d w a b = rw (a, b) refl

pub next_open : (d : ℕ) → next d (codes "(") ≡ suc d
unfolding next
next_open d = refl

pub next_close : (d : ℕ) → next (suc d) (codes ")") ≡ d
unfolding next
next_close d = refl

pub counted_open : (p : List ℕ → Bool) (d : ℕ) → counted p d (codes "(") ≡ 0
unfolding counted
counted_open p d = refl

pub counted_close : (p : List ℕ → Bool) (d : ℕ) → counted p d (codes ")") ≡ 0
unfolding counted
counted_close p d = refl

pub counted_over : (p : List ℕ → Bool) (w : List ℕ) → is_open w ≡ false → is_close w ≡ false → counted p 0 w ≡ (if p w then 1 else 0)
unfolding counted
counted_over p w a b = rw (a, b) refl

-- ---- lists

pub walk_both : (p : List ℕ → Bool) (d : ℕ) (us vs : List (List ℕ)) → walk p d (us ++ vs) ≡ option_and_then (λ e. walk p e vs) (walk p d us)
walk_both p d [] vs = refl
walk_both p d (u ∷ us) vs = go (λ k. walk_both p k us vs) (step p d u)
  where
    go : ((k : ℕ) → walk p k (us ++ vs) ≡ option_and_then (λ e. walk p e vs) (walk p k us)) → (o : Option ℕ)
        → option_and_then (λ k. walk p k (us ++ vs)) o ≡ option_and_then (λ e. walk p e vs) (option_and_then (λ k. walk p k us) o)
    go ih None = refl
    go ih (Some k) = ih k

pub walk_on : (p : List ℕ → Bool) (d e : ℕ) (us vs : List (List ℕ)) → walk p d us ≡ Some e → walk p d (us ++ vs) ≡ walk p e vs
walk_on p d e us vs h = walk_both p d us vs ∙ ap (option_and_then (λ k. walk p k vs)) h

pub walk_next : (p : List ℕ → Bool) (d e : ℕ) (w : List ℕ) (ws : List (List ℕ)) → step p d w ≡ Some e → walk p d (w ∷ ws) ≡ walk p e ws
walk_next p d e w ws h = ap (option_and_then (λ k. walk p k ws)) h

-- within parentheses each token may stand
pub deeper : (p r : List ℕ → Bool) (d e : ℕ) (us : List (List ℕ)) → walk p d us ≡ Some e → walk r (suc d) us ≡ Some (suc e)
deeper p r d e [] h = let z : d ≡ e = cc in ap (λ k. Some (suc k)) z
deeper p r d e (u ∷ us) h = go (λ k i. deeper p r k e us i) (step p d u) refl
  where
    go : ((k : ℕ) → walk p k us ≡ Some e → walk r (suc k) us ≡ Some (suc e)) → (o : Option ℕ) → step p d u ≡ o → walk r (suc d) (u ∷ us) ≡ Some (suc e)
    go ih None f = absurd (let k = rw f at h in cc)
    go ih (Some k) f = walk_next r (suc d) (suc k) u us (step_deeper p r d k u f) ∙ ih k (rw f at h)

-- two lists that no stop stands in, before a stop each
pub same_front : (p : List ℕ → Bool) (d : ℕ) (us vs xs ys : List (List ℕ)) (x y : List ℕ) → walk p d us ≡ Some 0 → walk p d vs ≡ Some 0 → step p 0 x ≡ None
    → step p 0 y ≡ None → us ++ x ∷ xs ≡ vs ++ y ∷ ys → us ≡ vs
same_front p d [] [] xs ys x y a b m n e = refl
same_front p d [] (v ∷ vs) xs ys x y a b m n e =
    let z : d ≡ 0 = cc in
    let h : x ≡ v = cc in
    let q : step p d v ≡ None = ap (λ k. step p k v) z ∙ ap (step p 0) (sym h) ∙ m in
    absurd (let k = rw q at b in cc)
same_front p d (u ∷ us) [] xs ys x y a b m n e =
    let z : d ≡ 0 = cc in
    let h : u ≡ y = cc in
    let q : step p d u ≡ None = ap (λ k. step p k u) z ∙ ap (step p 0) h ∙ n in
    absurd (let k = rw q at a in cc)
same_front p d (u ∷ us) (v ∷ vs) xs ys x y a b m n e =
    let h : u ≡ v = cc in
    let t : us ++ x ∷ xs ≡ vs ++ y ∷ ys = cc in
    go h (λ k i j. same_front p k us vs xs ys x y i j m n t) (step p d u) refl
  where
    go : u ≡ v → ((k : ℕ) → walk p k us ≡ Some 0 → walk p k vs ≡ Some 0 → us ≡ vs) → (o : Option ℕ) → step p d u ≡ o → u ∷ us ≡ v ∷ vs
    go h ih None f = absurd (let k = rw f at a in cc)
    go h ih (Some k) f =
        let g : step p d v ≡ Some k = ap (step p d) (sym h) ∙ f in
        ap (λ w. w ∷ us) h ∙ ap (λ ws. v ∷ ws) (ih k (rw f at a) (rw g at b))

pub count_both : (p r : List ℕ → Bool) (d e : ℕ) (us vs : List (List ℕ)) → walk p d us ≡ Some e → count r d (us ++ vs) ≡ count r d us + count r e vs
count_both p r d e [] vs h = let z : d ≡ e = cc in let f = ap (λ k. count r k vs) z in omega (arith, f)
count_both p r d e (u ∷ us) vs h = go (λ k i. count_both p r k e us vs i) (step p d u) refl
  where
    go : ((k : ℕ) → walk p k us ≡ Some e → count r k (us ++ vs) ≡ count r k us + count r e vs) → (o : Option ℕ) → step p d u ≡ o
        → count r d (u ∷ (us ++ vs)) ≡ count r d (u ∷ us) + count r e vs
    go ih None f = absurd (let k = rw f at h in cc)
    go ih (Some k) f =
        let n = step_next p d k u f in
        let i : count r (next d u) (us ++ vs) ≡ count r (next d u) us + count r e vs = rw n (ih k (rw f at h)) in
        omega (arith, i)

-- a list in which nothing counts has no stop
pub none_stops : (p r : List ℕ → Bool) (d e : ℕ) (us : List (List ℕ)) → walk p d us ≡ Some e → count r d us ≡ 0 → walk r d us ≡ Some e
none_stops p r d e [] h n = h
none_stops p r d e (u ∷ us) h n = go (λ k i j. none_stops p r k e us i j) (step p d u) refl
  where
    go : ((k : ℕ) → walk p k us ≡ Some e → count r k us ≡ 0 → walk r k us ≡ Some e) → (o : Option ℕ) → step p d u ≡ o → walk r d (u ∷ us) ≡ Some e
    go ih None f = absurd (let k = rw f at h in cc)
    go ih (Some k) f =
        let here : counted r d u ≡ 0 = omega arith in
        let rest : count r (next d u) us ≡ 0 = omega arith in
        walk_next r d k u us (step_passes p r d k u f here) ∙ ih k (rw f at h) (ap (λ m. count r m us) (sym (step_next p d k u f)) ∙ rest)

-- and the other way
pub stops_none : (p : List ℕ → Bool) (d e : ℕ) (us : List (List ℕ)) → walk p d us ≡ Some e → count p d us ≡ 0
stops_none p d e [] h = refl
stops_none p d e (u ∷ us) h = go (λ k i. stops_none p k e us i) (step p d u) refl
  where
    go : ((k : ℕ) → walk p k us ≡ Some e → count p k us ≡ 0) → (o : Option ℕ) → step p d u ≡ o → count p d (u ∷ us) ≡ 0
    go ih None f = absurd (let k = rw f at h in cc)
    go ih (Some k) f =
        let here = step_none p d k u f in
        let rest : count p (next d u) us ≡ 0 = ap (λ m. count p m us) (step_next p d k u f) ∙ ih k (rw f at h) in
        omega (arith, here, rest)

-- nothing counts within parentheses
pub none_inside : (p r : List ℕ → Bool) (d e : ℕ) (us : List (List ℕ)) → walk p d us ≡ Some e → count r (suc d) us ≡ 0
none_inside p r d e [] h = refl
none_inside p r d e (u ∷ us) h = go (λ k i. none_inside p r k e us i) (step p d u) refl
  where
    go : ((k : ℕ) → walk p k us ≡ Some e → count r (suc k) us ≡ 0) → (o : Option ℕ) → step p d u ≡ o → count r (suc d) (u ∷ us) ≡ 0
    go ih None f = absurd (let k = rw f at h in cc)
    go ih (Some k) f =
        let here = counted_inside r d u in
        let deep = step_next p (suc d) (suc k) u (step_deeper p p d k u f) in
        let rest : count r (next (suc d) u) us ≡ 0 = ap (λ m. count r m us) deep ∙ ih k (rw f at h) in
        omega (arith, here, rest)

-- nothing counts in a list in parentheses
pub none_wrapped : (p r : List ℕ → Bool) (us : List (List ℕ)) → walk p 0 us ≡ Some 0 → count r 0 (codes "(" ∷ (us ++ codes ")" ∷ [])) ≡ 0
none_wrapped p r us h =
    let a = counted_open r 0 in
    let b : count r (next 0 (codes "(")) (us ++ codes ")" ∷ []) ≡ count r 1 (us ++ codes ")" ∷ []) = ap (λ k. count r k (us ++ codes ")" ∷ [])) (next_open 0) in
    let c = count_both p r 1 1 us (codes ")" ∷ []) (deeper p p 0 0 us h) in
    let d = none_inside p r 0 0 us h in
    let e = counted_close r 1 in
    omega (arith, a, b, c, d, e)

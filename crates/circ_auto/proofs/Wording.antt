-- What is read from the left is what stands there.
use Rattle.std.specs.Prelude.{◌≡◌, ℕ, ◌+◌, ◌^◌, ◌<◌, ◌≤◌, ◌==◌, ◌||◌, not, nat_lt, List, [], ◌∷◌, ◌++◌, refl, map, Option, Some, None, Bool, true, false, if◌then◌else◌, decimal, codes}
use Rattle.std.specs.List.{AllByRecursion, list_all}
use Rattle.std.specs.Option.{option_map, option_and_then}
use Rattle.std.specs.Cmp.Lexicographic.{bytes_decides}
use Rattle.std.proofs.Common.{sym, ◌∙◌, ap, subst, arith}
use Rattle.std.proofs.lemmas.Option.{same_Some}
use Rattle.std.proofs.lemmas.Bool.{ltb-true, lt-ltb}
use Rattle.circ_statement.specs.Words.{Word, is_name, are_names, is_special_word, has_colon, is_reserved}
use Rattle.circ_auto.specs.Reading.{is_word, front_of, after, is_none_left, numeral, names_in, numbers_in, number_in, are_below}
use Rattle.circ_auto.proofs.Numerals.{numeral_gives, numeral_again}

pub same_word : (v w : Word) → is_word v w ≡ true → v ≡ w
same_word v w e = (bytes_decides v w).0 e

pub word_itself : (w : Word) → is_word w w ≡ true
word_itself w = (bytes_decides w w).1 refl

pub other_word : (v w : Word) → (v ≡ w → ⊥) → is_word v w ≡ false
other_word v w differ = go (is_word v w) refl
  where
    go : (t : Bool) → is_word v w ≡ t → is_word v w ≡ false
    go true e = absurd (differ (same_word v w e))
    go false e = e

pub after_gives : (v : Word) (ws r : List Word) → after v ws ≡ Some r → ws ≡ v ∷ r
after_gives v [] r e = absurd (cc)
after_gives v (w ∷ ws) r e = go (is_word w v) (same_word w v) e
  where
    go : (t : Bool) → (t ≡ true → w ≡ v) → (if t then Some ws else None) ≡ Some r → w ∷ ws ≡ v ∷ r
    go true is e = let f = is refl in let s : ws ≡ r = same_Some ws r e in (λ i. f i ∷ s i)
    go false is e = absurd (cc)

pub after_again : (v : Word) (r : List Word) → after v (v ∷ r) ≡ Some r
after_again v r = ap (λ t. if t then Some r else None) (word_itself v)

pub front_gives : (ws : List Word) (w : Word) (r : List Word) → front_of ws ≡ Some (w, r) → ws ≡ w ∷ r
front_gives [] w r e = absurd (cc)
front_gives (v ∷ ws) w r e = let s : ◌≡◌ {A = Word × List Word} (v, ws) (w, r) = same_Some (v, ws) (w, r) e in (λ i. (s i).0 ∷ (s i).1)

pub none_gives : (ws : List Word) → is_none_left ws ≡ true → ws ≡ []
none_gives [] e = refl
none_gives (w ∷ ws) e = absurd (cc)

-- a name is no stop
pub name_no_stop : (w : Word) → is_name w ≡ true → is_word w (codes ".") ≡ false
name_no_stop w e = other_word w (codes ".") (λ s. let f : is_name (codes ".") ≡ true = subst (λ x. is_name x ≡ true) s e in let g : false ≡ true = f in absurd (cc))

-- nor is a number
pub number_no_stop : (w : Word) (n : ℕ) → numeral w ≡ Some n → is_word w (codes ".") ≡ false
number_no_stop w n e = other_word w (codes ".") (λ s. let f : numeral (codes ".") ≡ Some n = subst (λ x. numeral x ≡ Some n) s e in let g : ◌≡◌ {A = Option ℕ} None (Some n) = f in absurd (cc))

pub record NamesThen (ws ns r : List Word) : Type 0 where
  pub words : ws ≡ ns ++ codes "." ∷ r
  pub are_names : are_names ns ≡ true

pub names_give : (ws ns r : List Word) → names_in ws ≡ Some (ns, r) → NamesThen ws ns r
names_give [] ns r e = absurd (cc)
names_give (w ∷ ws) ns r e = go (λ xs q f. names_give ws xs q f) (is_word w (codes ".")) (is_name w) (same_word w (codes ".")) refl (names_in ws) refl e
  where
    go : ((xs q : List Word) → names_in ws ≡ Some (xs, q) → NamesThen ws xs q) → (t u : Bool) → (t ≡ true → w ≡ codes ".") → is_name w ≡ u → (o : Option (List Word × List Word)) → names_in ws ≡ o
        → if◌then◌else◌ {A = Option (List Word × List Word)} t (Some ([], ws)) (if u then option_map {U = List Word × List Word} (λ p. (w ∷ p.0, p.1)) o else None)
        ≡ Some (ns, r) → NamesThen (w ∷ ws) ns r
    go ih true u is n o f e =
        let s : ◌≡◌ {A = List Word × List Word} ([], ws) (ns, r) = same_Some ([], ws) (ns, r) e in
        let P : List Word × List Word → Type 0 = λ p. NamesThen (w ∷ ws) p.0 p.1 in
        subst P s (record { words = ap (λ x. x ∷ ws) (is refl); are_names = refl })
    go ih false false is n o f e = absurd (cc)
    go ih false true is n None f e = absurd (cc)
    go ih false true is n (Some p) f e =
        let h = ih p.0 p.1 f in
        let s : ◌≡◌ {A = List Word × List Word} (w ∷ p.0, p.1) (ns, r) = same_Some (w ∷ p.0, p.1) (ns, r) e in
        let P : List Word × List Word → Type 0 = λ q. NamesThen (w ∷ ws) q.0 q.1 in
        subst P s (record { words = ap (λ x. w ∷ x) h.words; are_names = rw n h.are_names })

pub names_again : (ns r : List Word) → are_names ns ≡ true → names_in (ns ++ codes "." ∷ r) ≡ Some (ns, r)
names_again [] r e = refl
names_again (w ∷ ns) r e = go (λ f. names_again ns r f) (is_name w) refl e
  where
    go : (are_names ns ≡ true → names_in (ns ++ codes "." ∷ r) ≡ Some (ns, r)) → (t : Bool) → is_name w ≡ t → are_names (w ∷ ns) ≡ true → names_in (w ∷ (ns ++ codes "." ∷ r)) ≡ Some (w ∷ ns, r)
    go ih false n e = absurd (let z = rw n at e in cc)
    go ih true n e = let rest : are_names ns ≡ true = rw n at e in rw (n, name_no_stop w n, ih rest) refl

pub record NumbersThen (ws : List Word) (ns : List ℕ) (r : List Word) : Type 0 where
  pub words : ws ≡ map decimal ns ++ codes "." ∷ r

pub numbers_give : (ws : List Word) (ns : List ℕ) (r : List Word) → numbers_in ws ≡ Some (ns, r) → NumbersThen ws ns r
numbers_give [] ns r e = absurd (cc)
numbers_give (w ∷ ws) ns r e = go (λ xs q f. numbers_give ws xs q f) (is_word w (codes ".")) (same_word w (codes ".")) (numeral w) refl (numbers_in ws) refl e
  where
    go : ((xs : List ℕ) (q : List Word) → numbers_in ws ≡ Some (xs, q) → NumbersThen ws xs q) → (t : Bool) → (t ≡ true → w ≡ codes ".") → (m : Option ℕ) → numeral w ≡ m → (o : Option (List ℕ × List Word)) → numbers_in ws ≡ o
        → (if t then Some ([], ws) else option_and_then {U = List ℕ × List Word} (λ n. option_map (λ p. (n ∷ p.0, p.1)) o) m) ≡ Some (ns, r) → NumbersThen (w ∷ ws) ns r
    go ih true is m k o f e =
        let s : ◌≡◌ {A = List ℕ × List Word} ([], ws) (ns, r) = same_Some ([], ws) (ns, r) e in
        let P : List ℕ × List Word → Type 0 = λ p. NumbersThen (w ∷ ws) p.0 p.1 in
        subst P s (record { words = ap (λ x. x ∷ ws) (is refl) })
    go ih false is None k o f e = absurd (cc)
    go ih false is (Some n) k None f e = absurd (cc)
    go ih false is (Some n) k (Some p) f e =
        let h = (ih p.0 p.1 f).words in
        let d = (numeral_gives w n k).0 in
        let s : ◌≡◌ {A = List ℕ × List Word} (n ∷ p.0, p.1) (ns, r) = same_Some (n ∷ p.0, p.1) (ns, r) e in
        let P : List ℕ × List Word → Type 0 = λ q. NumbersThen (w ∷ ws) q.0 q.1 in
        subst P s (record { words = (λ i. d i ∷ h i) })

pub numbers_again : (ns : List ℕ) (r : List Word) → AllByRecursion (λ n. n < 2 ^ 32) ns → numbers_in (map decimal ns ++ codes "." ∷ r) ≡ Some (ns, r)
numbers_again [] r all = refl
numbers_again (n ∷ ns) r all =
    let d : numeral (decimal n) ≡ Some n = numeral_again n all.0 in
    rw (number_no_stop (decimal n) n d, d, numbers_again ns r all.1) refl

pub number_gives : (ws : List Word) (n : ℕ) (r : List Word) → number_in ws ≡ Some (n, r) → ws ≡ decimal n ∷ codes "." ∷ r
number_gives [] n r e = absurd (cc)
number_gives (w ∷ ws) n r e = go (numeral w) refl (after (codes ".") ws) refl e
  where
    go : (m : Option ℕ) → numeral w ≡ m → (o : Option (List Word)) → after (codes ".") ws ≡ o
        → option_and_then {U = ℕ × List Word} (λ k. option_map (λ rest. (k, rest)) o) m ≡ Some (n, r) → w ∷ ws ≡ decimal n ∷ codes "." ∷ r
    go None k o f e = absurd (cc)
    go (Some m) k None f e = absurd (cc)
    go (Some m) k (Some q) f e =
        let s : ◌≡◌ {A = ℕ × List Word} (m, q) (n, r) = same_Some (m, q) (n, r) e in
        let d = (numeral_gives w m k).0 in
        let a = after_gives (codes ".") ws q f in
        (λ i. d i ∷ a i) ∙ (λ i. decimal ((s i).0) ∷ codes "." ∷ (s i).1)

pub number_again : (n : ℕ) (r : List Word) → n < 2 ^ 32 → number_in (decimal n ∷ codes "." ∷ r) ≡ Some (n, r)
number_again n r l = rw (numeral_again n l) refl

pub below_all : (k : ℕ) (ns : List ℕ) → are_below k ns ≡ true → AllByRecursion (λ n. n < k) ns
below_all k [] e = tt
below_all k (n ∷ ns) e = go (λ f. below_all k ns f) (nat_lt n k) (ltb-true n k) refl e
  where
    go : (are_below k ns ≡ true → AllByRecursion (λ m. m < k) ns) → (t : Bool) → (t ≡ true → n < k) → nat_lt n k ≡ t → are_below k (n ∷ ns) ≡ true → AllByRecursion (λ m. m < k) (n ∷ ns)
    go ih false l f e = absurd (let z = rw f at e in cc)
    go ih true l f e = let rest : are_below k ns ≡ true = rw f at e in (l refl, ih rest)

pub all_below : (k : ℕ) (ns : List ℕ) → AllByRecursion (λ n. n < k) ns → are_below k ns ≡ true
all_below k [] all = refl
all_below k (n ∷ ns) all = rw (lt-ltb n k all.0) (all_below k ns all.1)

pub all_small : (k : ℕ) (ns : List ℕ) → k ≤ 2 ^ 32 → AllByRecursion (λ n. n < k) ns → AllByRecursion (λ n. n < 2 ^ 32) ns
all_small k [] l all = tt
all_small k (n ∷ ns) l all = (omega (arith, all.0, l), all_small k ns l all.1)

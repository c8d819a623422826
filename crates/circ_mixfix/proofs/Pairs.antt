-- A list of two token lists is read as a pair.
use Rattle.std.proofs.Common.{◌≡◌, ◌≤◌, ◌<◌, ◌+◌, ◌-◌, ℕ, zero, suc, List, [], ◌∷◌, map, length, drop, get_or, Bool, true, false, nat_lt, nat_eq, Option, Some, None, Result, Ok, Err, sym, ◌∙◌, ap, subst, refl, arith}
use Rattle.std.specs.Prelude.{IfOk}
use Rattle.std.specs.Option.{option_or}
use Rattle.std.specs.List.{AllByRecursion, Contains}
use Rattle.std.proofs.lemmas.List.{drop_more, drop-map, drop_all, length-map}
use Rattle.std.proofs.lemmas.Bool.{eqb-true, eqb-false}
use Rattle.circ_term.specs.Tree.{Tree}
use Rattle.circ_lexer.specs.TokenList.{TokenList, tokens_of, tokens_in, IsWithin}
use Rattle.circ_lexer.specs.declared.tokens.Span.{Span}
use Rattle.circ_theory.specs.Signature.{Signature}
use Rattle.circ_theory.specs.Theory.{Pair, pair_with, Declared}
use Rattle.circ_theory.specs.Variables.{AreNumberedFrom, seen_in_pairs}
use Rattle.circ_mixfix.specs.Named.{Named, place_from, seen_in, numbered}
use Rattle.circ_mixfix.specs.Readings.{SpellTwos, ReadsTwos, numbered_list}
use Rattle.circ_mixfix.specs.Answers.{too_many, long_count, first_long, lists_in, ReadsBoth, GivesReading}
use Rattle.circ_mixfix.specs.Found.{sides_of_pairs, AreTwosSorted, AreTwosInOrder, ArePairSorted, IsPairInOrder}
use Rattle.circ_mixfix.specs.declared.few.Reading.{Reading}
use Rattle.circ_mixfix.specs.declared.parse.ParseFault.{ParseFault}
use Rattle.circ_mixfix.specs.declared.parse.ParseFault.TheVariants.{TooLong, NoParse, Ambiguous, Memory}
use Rattle.circ_mixfix.specs.Choices.{HaveChosen, ReadsOn}
use Rattle.circ_mixfix.specs.declared.choices.Choices.{Choices}
use Rattle.circ_mixfix.proofs.TokenNumbers.{range_length}
use Rattle.circ_mixfix.proofs.Twos.{odd}

-- the same answer by another name
pub gives_through : (r : Result Reading ParseFault) (a b : Option ℕ) (P Q : List Tree → Type 0) → a ≡ b → ((ts : List Tree) → P ts → Q ts) → ((ts : List Tree) → Q ts → P ts)
    → GivesReading r a P → GivesReading r b Q
gives_through (Ok x) a b P Q e f g h = (sym e ∙ h.0, f x.terms.items h.1, λ ts q. h.2 ts (g ts q))
gives_through (Err (TooLong n)) a b P Q e f g h = sym e ∙ h
gives_through (Err NoParse) a b P Q e f g h = (sym e ∙ h.0, λ ts q. h.1 ts (g ts q))
gives_through (Err (Ambiguous x y)) a b P Q e f g h = (sym e ∙ h.0, f x.terms.items h.1, f y.terms.items h.2, h.3)
gives_through (Err Memory) a b P Q e f g h = tt

-- what is true of each reading is true of what is answered
pub if_read : (r : Result Reading ParseFault) (a : Option ℕ) (P Q R : List Tree → Type 0) → ((ts : List Tree) → P ts → Q ts → R ts) → GivesReading r a P → IfOk r (λ x. Q x.terms.items)
    → IfOk r (λ x. R x.terms.items)
if_read (Ok x) a P Q R f h k = f x.terms.items h.1 k
if_read (Err e) a P Q R f h k = tt

-- the spans that are left
module _ (ts : TokenList) where
  pub long_none : (spans : List Span) → AllByRecursion (IsWithin ts) spans → (i : ℕ) (d : Span) → i < length spans → first_long (lists_in ts spans) ≡ None → length (tokens_in ts (get_or spans i d)) ≤ 256
  long_none [] h i d l e = absurd (omega arith)
  long_none (s ∷ spans) h zero d l e = short (length (tokens_in ts s)) (first_part (long_count (tokens_in ts s)) (first_long (lists_in ts spans)) e)
    where
      first_part : (a b : Option ℕ) → option_or a b ≡ None → a ≡ None
      first_part None b e = refl
      first_part (Some n) b e = absurd (cc)

      short : (n : ℕ) → too_many n ≡ None → n ≤ 256
      short n e = go (nat_lt 256 n) refl
        where
          go : (b : Bool) → nat_lt 256 n ≡ b → n ≤ 256
          go true f = absurd (let z = rw f at e in cc z)
          go false f = grind (arith, f)
  long_none (s ∷ spans) h (suc i) d l e = long_none spans h.1 i d (omega arith) (last_part (long_count (tokens_in ts s)) (first_long (lists_in ts spans)) e)
    where
      last_part : (a b : Option ℕ) → option_or a b ≡ None → b ≡ None
      last_part None b e = e
      last_part (Some n) b e = absurd (cc)

  pub within_at : (spans : List Span) → AllByRecursion (IsWithin ts) spans → (i : ℕ) (d : Span) → i < length spans → IsWithin ts (get_or spans i d)
  within_at [] h i d l = absurd (omega arith)
  within_at (s ∷ spans) h zero d l = h.0
  within_at (s ∷ spans) h (suc i) d l = within_at spans h.1 i d (omega arith)

  -- the list of the next span
  pub lists_more : (spans : List Span) (i : ℕ) (d : Span) → i < length spans → drop i (lists_in ts spans) ≡ tokens_in ts (get_or spans i d) ∷ drop (i + 1) (lists_in ts spans)
  lists_more spans i d l =
      drop-map (tokens_in ts) i spans ∙ ap (map (tokens_in ts)) (drop_more spans i d l) ∙ ap (λ z. tokens_in ts (get_or spans i d) ∷ z) (sym (drop-map (tokens_in ts) (i + 1) spans))

  pub long_more : (spans : List Span) (i : ℕ) (d : Span) → i < length spans → long_count (tokens_in ts (get_or spans i d)) ≡ None
      → first_long (lists_in ts (drop i spans)) ≡ first_long (lists_in ts (drop (i + 1) spans))
  long_more spans i d l e = ap (λ z. first_long (lists_in ts z)) (drop_more spans i d l) ∙ ap (λ o. option_or o (first_long (lists_in ts (drop (i + 1) spans)))) e

  pub long_here : (spans : List Span) (i n : ℕ) (d : Span) → i < length spans → long_count (tokens_in ts (get_or spans i d)) ≡ Some n → first_long (lists_in ts (drop i spans)) ≡ Some n
  long_here spans i n d l e = ap (λ z. first_long (lists_in ts z)) (drop_more spans i d l) ∙ ap (λ o. option_or o (first_long (lists_in ts (drop (i + 1) spans)))) e

  -- how many tokens a span has is counted from its ends
  pub count_is : (s : Span) (o : Option ℕ) → IsWithin ts s → o ≡ too_many (s.to - s.from) → long_count (tokens_in ts s) ≡ o
  count_is s o w e = ap too_many (range_length (tokens_of ts) s.from s.to w.within) ∙ sym e

-- the lists of the next two spans
lists_two : (ts : TokenList) (spans : List Span) (i : ℕ) (d : Span) → i + 2 ≤ length spans
    → drop i (lists_in ts spans) ≡ tokens_in ts (get_or spans i d) ∷ tokens_in ts (get_or spans (i + 1) d) ∷ drop (i + 2) (lists_in ts spans)
lists_two ts spans i d l =
    let e : i + 1 + 1 ≡ i + 2 = omega arith in
    lists_more ts spans i d (omega arith)
    ∙ ap (λ z. tokens_in ts (get_or spans i d) ∷ z) (lists_more ts spans (i + 1) d (omega arith) ∙ ap (λ n. tokens_in ts (get_or spans (i + 1) d) ∷ drop n (lists_in ts spans)) e)

pub chosen_two : (sig : Signature) (vars : List Declared) (ts : TokenList) (spans : List Span) (i : ℕ) (d : Span) (c : Choices) → i + 2 ≤ length spans
    → HaveChosen sig vars (lists_in ts spans) (drop i (lists_in ts spans)) c
    → HaveChosen sig vars (lists_in ts spans) (tokens_in ts (get_or spans i d) ∷ tokens_in ts (get_or spans (i + 1) d) ∷ drop (i + 2) (lists_in ts spans)) c
chosen_two sig vars ts spans i d c l h = subst (λ z. HaveChosen sig vars (lists_in ts spans) z c) (lists_two ts spans i d l) h

-- where fewer than two spans are left
pub read_up : (sig : Signature) (vars : List Declared) (ts : TokenList) (spans : List Span) (i : ℕ) (d : Span) (c : Choices) → i ≤ length spans → length spans < i + 2
    → HaveChosen sig vars (lists_in ts spans) (drop i (lists_in ts spans)) c → ReadsOn sig vars (lists_in ts spans) [] c (nat_eq i (length spans))
read_up sig vars ts spans i d c l m h = go (nat_eq i (length spans)) refl
  where
    go : (b : Bool) → nat_eq i (length spans) ≡ b → ReadsOn sig vars (map (tokens_in ts) spans) [] c b
    go true e =
        let n = length-map spans (tokens_in ts) in
        let q = eqb-true i (length spans) e in
        subst (λ z. HaveChosen sig vars (map (tokens_in ts) spans) z c) (drop_all i (map (tokens_in ts) spans) (omega arith)) h
    go false e =
        let n = length-map spans (tokens_in ts) in
        let q = eqb-false i (length spans) e in
        let last = lists_more ts spans i d (omega arith) ∙ ap (λ z. tokens_in ts (get_or spans i d) ∷ z) (drop_all (i + 1) (map (tokens_in ts) spans) (omega arith)) in
        odd sig vars (map (tokens_in ts) spans) (tokens_in ts (get_or spans i d)) c (subst (λ z. HaveChosen sig vars (map (tokens_in ts) spans) z c) last h)

pub long_pair : (left right : List (List ℕ)) → first_long (left ∷ right ∷ []) ≡ option_or (long_count left) (long_count right)
long_pair left right = ap (option_or (long_count left)) (go (long_count right))
  where
    go : (o : Option ℕ) → option_or o None ≡ o
    go None = refl
    go (Some n) = refl

module _ (sig : Signature) (vars : List Declared) (left right : List (List ℕ)) where
  pub read_pair : (ts : List Tree) → ReadsTwos sig vars (left ∷ right ∷ []) ts → ReadsBoth sig vars left right ts
  read_pair ts r = go r.spelled r.spells r.are
    where
      go : (qs : List Named) → SpellTwos sig vars (left ∷ right ∷ []) qs → ts ≡ numbered_list qs → ReadsBoth sig vars left right ts
      go [] h e = absurd h
      go (q ∷ []) h e = absurd h
      go (q ∷ u ∷ []) h e =
          let ν = place_from 0 (seen_in u (seen_in q [])) in (
            numbered ν q,
            numbered ν u,
            e,
            record { sort = h.0.sort; first = q; second = u; spells_first = h.0.spells_left; spells_second = h.0.spells_right; first_is = refl; second_is = refl },
          )
      go (q ∷ u ∷ v ∷ qs) h e = absurd h.1

  pub pair_read : (ts : List Tree) → ReadsBoth sig vars left right ts → ReadsTwos sig vars (left ∷ right ∷ []) ts
  pair_read ts (t, u, e, r) = record {
    spelled = r.first ∷ r.second ∷ [];
    spells = (record { sort = r.sort; spells_left = r.spells_first; spells_right = r.spells_second }, tt);
    are = e ∙ ap (λ x. x ∷ u ∷ []) r.first_is ∙ ap (λ x. numbered (place_from 0 (seen_in r.second (seen_in r.first []))) r.first ∷ x ∷ []) r.second_is;
  }

-- two terms are one pair
one_pair : (t u : Tree) (ps : List Pair) → t ∷ u ∷ [] ≡ sides_of_pairs ps → ps ≡ pair_with t u ∷ []
one_pair t u [] e = absurd (cc)
one_pair t u (p ∷ []) e = let a : t ≡ p.left = cc e in let b : u ≡ p.right = cc e in ap (λ x. pair_with x p.right ∷ []) (sym a) ∙ ap (λ x. pair_with t x ∷ []) (sym b)
one_pair t u (p ∷ q ∷ ps) e = absurd (cc)

pub pair_sorted : (sig : Signature) (vars : List Declared) (left right : List (List ℕ)) (ts : List Tree) → ReadsBoth sig vars left right ts → AreTwosSorted sig ts → ArePairSorted sig ts
pair_sorted sig vars left right ts r s =
    let e = one_pair r.0 r.1 s.0 (sym r.2 ∙ s.1) in
    (pair_with r.0 r.1, r.2, s.2 (pair_with r.0 r.1) (subst (λ ps. Contains ps (pair_with r.0 r.1)) (sym e) (0, omega arith, refl)))

pub pair_in_order : (sig : Signature) (vars : List Declared) (left right : List (List ℕ)) (ts : List Tree) → ReadsBoth sig vars left right ts → AreTwosInOrder ts → IsPairInOrder ts
pair_in_order sig vars left right ts r s =
    let e = one_pair r.0 r.1 s.0 (sym r.2 ∙ s.1) in
    let P : List Pair → Type 0 = λ ps. AreNumberedFrom 0 (seen_in_pairs ps []) in
    (pair_with r.0 r.1, r.2, subst P e s.2)

-- What a text is read as is what stands in it, and the other way.
use Rattle.std.specs.Prelude.{◌≡◌, ℕ, ◌+◌, ◌*◌, ◌^◌, ◌<◌, ◌≤◌, ◌==◌, zero, suc, List, [], ◌∷◌, ◌++◌, Bool, true, false, nat_lt, nat_eq, length, map, get_or, replicate, decimal, codes, Option, Some, None, Result, Ok, Err, refl, if◌then◌else◌}
use Rattle.std.specs.List.{AllByRecursion, list_any}
use Rattle.std.specs.Option.{option_and_then}
use Rattle.std.proofs.Common.{sym, ◌∙◌, ap, subst, arith}
use Rattle.std.proofs.lemmas.Bool.{eqb-true, eqb-false, ltb-true, ltb-false, lt-ltb, le-ltb}
use Rattle.circ_statement.specs.Words.{Word, is_name, are_names}
use Rattle.circ_auto.specs.declared.fault.AutoCause.{AutoCause}
use Rattle.circ_auto.specs.declared.fault.AutoCause.TheVariants.{Shape, Limit}
use Rattle.circ_auto.specs.Machine.{Machine, states, IsMachine, AreAllDifferent}
use Rattle.circ_auto.specs.Reading.{after, front_of, names_in, number_in, numbers_in, is_none_left, are_below}
use Rattle.circ_auto.specs.Parts.{Part, or_shape, unless_refused, followed, head_in, repeat_after, repeated_or_many, letters_cause, letters_part, states_cause, states_part, start_in, accept_in, rows_part, end_in, marked, Opening, opening, closing, automaton_of}
use Rattle.circ_auto.specs.Text.{row_words, automaton_words, IsTextOf}
use Rattle.circ_auto.specs.Gives.{IsOpening}
use Rattle.circ_auto.proofs.Wording.{after_gives, after_again, front_gives, none_gives, names_give, names_again, numbers_give, numbers_again, number_gives, number_again, below_all, all_below, all_small}
use Rattle.circ_auto.proofs.Inverting.{ok_same, both, some_there, no_cause, both_some, if_some, if_given}
use Rattle.circ_auto.proofs.Marks.{length_marked, marked_listed, marks_are}
use Rattle.circ_auto.proofs.Ending.{length_unseen}
use Rattle.circ_auto.proofs.Distinct.{none_repeats, repeats_none, all_lack_none}
use Rattle.circ_auto.proofs.RowTexts.{rows_give, rows_again}

record HeadThen (ws r : List Word) : Type 0 where
  name : Word
  words : ws ≡ codes "automaton" ∷ name ∷ codes "is" ∷ r
  is_name : is_name name ≡ true

head_gives : (ws r : List Word) → head_in ws ≡ Some r → HeadThen ws r
head_gives ws r e =
    let a = both_some (λ r. if is_name r.0 then after (codes "is") r.1 else None) (option_and_then front_of (after (codes "automaton") ws)) r e in
    let b = both_some front_of (after (codes "automaton") ws) a.value a.first in
    let c = if_given (is_name a.value.0) (after (codes "is") a.value.1) r a.second in
    let first : ws ≡ codes "automaton" ∷ b.value = after_gives (codes "automaton") ws b.value b.first in
    let second : b.value ≡ a.value.0 ∷ a.value.1 = front_gives b.value a.value.0 a.value.1 b.second in
    let third : a.value.1 ≡ codes "is" ∷ r = after_gives (codes "is") a.value.1 r c.1 in
    record { name = a.value.0; words = first ∙ ap (λ x. codes "automaton" ∷ x) (second ∙ ap (λ x. a.value.0 ∷ x) third); is_name = c.0 }

head_again : (name : Word) (r : List Word) → is_name name ≡ true → head_in (codes "automaton" ∷ name ∷ codes "is" ∷ r) ≡ Some r
head_again name r e = rw e refl

record AreLetters (ls : List Word) : Type 0 where
  some : 0 < length ls
  few : length ls ≤ 64
  different : AreAllDifferent ls

letters_good : (ls : List Word) → letters_cause ls ≡ None → AreLetters ls
letters_good [] e = absurd (cc)
letters_good (w ∷ ws) e = go (repeat_after [] (w ∷ ws)) refl (nat_lt 64 (length (w ∷ ws))) refl e
  where
    go : (o : Option ℕ) → repeat_after [] (w ∷ ws) ≡ o → (t : Bool) → nat_lt 64 (length (w ∷ ws)) ≡ t → repeated_or_many o (length (w ∷ ws)) ≡ None → AreLetters (w ∷ ws)
    go (Some n) f t g e = absurd (cc)
    go None f true g e = absurd (let z = rw g at e in cc)
    go None f false g e = record { some = omega arith; few = ltb-false 64 (length (w ∷ ws)) g; different = (none_repeats [] (w ∷ ws) f).1 }

letters_allowed : (ls : List Word) → 0 < length ls → length ls ≤ 64 → AreAllDifferent ls → letters_cause ls ≡ None
letters_allowed [] l few d = absurd (omega (arith, l))
letters_allowed (w ∷ ws) l few d =
    ap (λ o. repeated_or_many o (length (w ∷ ws))) (repeats_none [] (w ∷ ws) (all_lack_none (w ∷ ws)) d)
    ∙ ap (λ t. if t then Some (many (length (w ∷ ws))) else None) (le-ltb 64 (length (w ∷ ws)) few)
  where
    many : ℕ → AutoCause
    many n = Limit n

record LettersThen (ws ls r : List Word) : Type 0 where
  words : ws ≡ codes "letters" ∷ ls ++ codes "." ∷ r
  are_names : are_names ls ≡ true
  are : AreLetters ls

letters_give : (ws ls r : List Word) → letters_part ws ≡ Ok (ls, r) → LettersThen ws ls r
letters_give ws ls r e =
    let a = both (or_shape 2 (option_and_then names_in (after (codes "letters") ws))) (λ r. unless_refused 2 (letters_cause r.0) r) (ls, r) e in
    let p = a.value in
    let b = no_cause 2 (letters_cause p.0) p (ls, r) a.second in
    let c = both_some names_in (after (codes "letters") ws) p (some_there 2 (option_and_then names_in (after (codes "letters") ws)) p a.first) in
    let names = names_give c.value p.0 p.1 c.second in
    let P : List Word × List Word → Type 0 = λ q. LettersThen ws q.0 q.1 in
    subst P b.1 (record {
      words = after_gives (codes "letters") ws c.value c.first ∙ ap (λ x. codes "letters" ∷ x) names.words;
      are_names = names.are_names;
      are = letters_good p.0 b.0;
    })

letters_again : (ls r : List Word) → are_names ls ≡ true → 0 < length ls → length ls ≤ 64 → AreAllDifferent ls
    → letters_part (codes "letters" ∷ ls ++ codes "." ∷ r) ≡ Ok (ls, r)
letters_again ls r names some few d = rw (names_again ls r names, letters_allowed ls some few d) refl

record StatesThen (ws : List Word) (n : ℕ) (r : List Word) : Type 0 where
  words : ws ≡ codes "states" ∷ decimal n ∷ codes "." ∷ r
  some : 0 < n
  few : n ≤ 1000

record IsCount (n : ℕ) : Type 0 where
  some : 0 < n
  few : n ≤ 1000

states_good : (n : ℕ) → states_cause n ≡ None → IsCount n
states_good n e = go (n == 0) (eqb-false n 0) (nat_lt 1000 n) (ltb-false 1000 n) e
  where
    go : (t : Bool) → (t ≡ false → n ≡ 0 → ⊥) → (u : Bool) → (u ≡ false → n ≤ 1000) → (if t then Some Shape else if u then Some (Limit n) else None) ≡ None → IsCount n
    go true h u k e = absurd (cc)
    go false h true k e = absurd (cc)
    go false h false k e = let no : n ≡ 0 → ⊥ = h refl in record { some = omega (arith, no); few = k refl }

states_allowed : (n : ℕ) → 0 < n → n ≤ 1000 → states_cause n ≡ None
states_allowed n l few = go (n == 0) refl (eqb-true n 0)
  where
    go : (t : Bool) → (n == 0) ≡ t → (t ≡ true → n ≡ 0) → states_cause n ≡ None
    go true f is = let z : n ≡ 0 = is refl in absurd (omega (arith, l, z))
    go false f is = rw (f, le-ltb 1000 n few) refl

states_give : (ws : List Word) (n : ℕ) (r : List Word) → states_part ws ≡ Ok (n, r) → StatesThen ws n r
states_give ws n r e =
    let a = both (or_shape 3 (option_and_then number_in (after (codes "states") ws))) (λ r. unless_refused 3 (states_cause r.0) r) (n, r) e in
    let p = a.value in
    let b = no_cause 3 (states_cause p.0) p (n, r) a.second in
    let c = both_some number_in (after (codes "states") ws) p (some_there 3 (option_and_then number_in (after (codes "states") ws)) p a.first) in
    let count = states_good p.0 b.0 in
    let P : ℕ × List Word → Type 0 = λ q. StatesThen ws q.0 q.1 in
    subst P b.1 (record {
      words = after_gives (codes "states") ws c.value c.first ∙ ap (λ x. codes "states" ∷ x) (number_gives c.value p.0 p.1 c.second);
      some = count.some;
      few = count.few;
    })

states_again : (n : ℕ) (r : List Word) → 0 < n → n ≤ 1000 → states_part (codes "states" ∷ decimal n ∷ codes "." ∷ r) ≡ Ok (n, r)
states_again n r some few = rw (number_again n r (omega (arith, few)), states_allowed n some few) refl

record StartThen (ws : List Word) (n s : ℕ) (r : List Word) : Type 0 where
  words : ws ≡ codes "start" ∷ decimal s ∷ codes "." ∷ r
  below : s < n

start_gives : (n : ℕ) (ws : List Word) (s : ℕ) (r : List Word) → start_in n ws ≡ Some (s, r) → StartThen ws n s r
start_gives n ws s r e =
    let a = both_some (λ r. if nat_lt r.0 n then Some r else None) (option_and_then number_in (after (codes "start") ws)) (s, r) e in
    let p = a.value in
    let b = if_some (nat_lt p.0 n) p (s, r) a.second in
    let c = both_some number_in (after (codes "start") ws) p a.first in
    let P : ℕ × List Word → Type 0 = λ q. StartThen ws n q.0 q.1 in
    subst P b.1 (record {
      words = after_gives (codes "start") ws c.value c.first ∙ ap (λ x. codes "start" ∷ x) (number_gives c.value p.0 p.1 c.second);
      below = ltb-true p.0 n b.0;
    })

start_again : (n s : ℕ) (r : List Word) → s < n → n ≤ 1000 → start_in n (codes "start" ∷ decimal s ∷ codes "." ∷ r) ≡ Some (s, r)
start_again n s r l few = rw (number_again s r (omega (arith, l, few)), lt-ltb s n l) refl

record AcceptThen (ws : List Word) (n : ℕ) (ss : List ℕ) (r : List Word) : Type 0 where
  words : ws ≡ codes "accept" ∷ map decimal ss ++ codes "." ∷ r
  below : AllByRecursion (λ s. s < n) ss

accept_gives : (n : ℕ) (ws : List Word) (ss : List ℕ) (r : List Word) → accept_in n ws ≡ Some (ss, r) → AcceptThen ws n ss r
accept_gives n ws ss r e =
    let a = both_some (λ r. if are_below n r.0 then Some r else None) (option_and_then numbers_in (after (codes "accept") ws)) (ss, r) e in
    let p = a.value in
    let b = if_some (are_below n p.0) p (ss, r) a.second in
    let c = both_some numbers_in (after (codes "accept") ws) p a.first in
    let P : List ℕ × List Word → Type 0 = λ q. AcceptThen ws n q.0 q.1 in
    subst P b.1 (record {
      words = after_gives (codes "accept") ws c.value c.first ∙ ap (λ x. codes "accept" ∷ x) (numbers_give c.value p.0 p.1 c.second).words;
      below = below_all n p.0 b.0;
    })

accept_again : (n : ℕ) (ss : List ℕ) (r : List Word) → n ≤ 1000 → AllByRecursion (λ s. s < n) ss
    → accept_in n (codes "accept" ∷ map decimal ss ++ codes "." ∷ r) ≡ Some (ss, r)
accept_again n ss r few all = rw (numbers_again ss r (all_small n ss (omega (arith, few)) all), all_below n ss all) refl

end_gives : (ws : List Word) → end_in ws ≡ Some tt → ws ≡ codes "endautomaton" ∷ []
end_gives ws e =
    let a = both_some (λ r. if is_none_left r then Some tt else None) (after (codes "endautomaton") ws) tt e in
    let b = if_some (is_none_left a.value) tt tt a.second in
    after_gives (codes "endautomaton") ws a.value a.first ∙ ap (λ x. codes "endautomaton" ∷ x) (none_gives a.value b.0)

-- the words of the first four statements
abbrev opening_words : Word → Opening → List Word
opening_words name o =
    codes "automaton" ∷ name ∷ codes "is" ∷ codes "letters" ∷ o.letters ++ codes "." ∷ codes "states" ∷ decimal o.states ∷ codes "."
    ∷ codes "start" ∷ decimal o.start ∷ codes "." ∷ o.ahead

pub record OpeningThen (ws : List Word) (o : Opening) : Type 0 where
  pub name : Word
  pub words : ws ≡ opening_words name o
  pub is_name : is_name name ≡ true
  pub are_names : are_names o.letters ≡ true
  pub within : IsOpening o

after_head : List Word → Part Opening
after_head a = followed (letters_part a) (λ l. followed (states_part l.1) (λ n. followed (or_shape 4 (start_in n.0 n.1)) (λ s.
    Ok (record { letters = l.0; states = n.0; start = s.0; ahead = s.1 }))))

pub opening_gives : (ws : List Word) (o : Opening) → opening ws ≡ Ok o → OpeningThen ws o
opening_gives ws o e =
    let a = both (or_shape 1 (head_in ws)) (λ a. followed (letters_part a) (λ l. followed (states_part l.1) (λ n. followed (or_shape 4 (start_in n.0 n.1)) (λ s.
    Ok (record { letters = l.0; states = n.0; start = s.0; ahead = s.1 }))))) o e in
    let b = both (letters_part a.value) (λ l. followed (states_part l.1) (λ n. followed (or_shape 4 (start_in n.0 n.1)) (λ s.
    Ok (record { letters = l.0; states = n.0; start = s.0; ahead = s.1 })))) o a.second in
    let c = both (states_part b.value.1) (λ n. followed (or_shape 4 (start_in n.0 n.1)) (λ s.
    Ok (record { letters = b.value.0; states = n.0; start = s.0; ahead = s.1 }))) o b.second in
    let d = both (or_shape 4 (start_in c.value.0 c.value.1)) (λ s.
    Ok (record { letters = b.value.0; states = c.value.0; start = s.0; ahead = s.1 })) o c.second in
    let head = head_gives ws a.value (some_there 1 (head_in ws) a.value a.first) in
    let letters = letters_give a.value b.value.0 b.value.1 b.first in
    let count = states_give b.value.1 c.value.0 c.value.1 c.first in
    let start = start_gives c.value.0 c.value.1 d.value.0 d.value.1 (some_there 4 (start_in c.value.0 c.value.1) d.value d.first) in
    let made : Opening = record { letters = b.value.0; states = c.value.0; start = d.value.0; ahead = d.value.1 } in
    let same : made ≡ o = ok_same made o d.second in
    let P : Opening → Type 0 = OpeningThen ws in
    subst P same (record {
      name = head.name;
      words = head.words ∙ ap (λ x. codes "automaton" ∷ head.name ∷ codes "is" ∷ x) (letters.words ∙ ap (λ x. codes "letters" ∷ b.value.0 ++ codes "." ∷ x)
          (count.words ∙ ap (λ x. codes "states" ∷ decimal c.value.0 ∷ codes "." ∷ x) start.words));
      is_name = head.is_name;
      are_names = letters.are_names;
      within = record {
        some_letters = letters.are.some;
        few_letters = letters.are.few;
        different = letters.are.different;
        few_states = count.few;
        start = start.below;
      };
    })

pub opening_again : (name : Word) (o : Opening) → is_name name ≡ true → are_names o.letters ≡ true → IsOpening o → opening (opening_words name o) ≡ Ok o
opening_again name o is are w =
    rw (
      head_again name (codes "letters" ∷ o.letters ++ codes "." ∷ codes "states" ∷ decimal o.states ∷ codes "." ∷ codes "start" ∷ decimal o.start ∷ codes "." ∷ o.ahead) is,
      letters_again o.letters (codes "states" ∷ decimal o.states ∷ codes "." ∷ codes "start" ∷ decimal o.start ∷ codes "." ∷ o.ahead) are w.some_letters w.few_letters w.different,
      states_again o.states (codes "start" ∷ decimal o.start ∷ codes "." ∷ o.ahead) (omega (arith, w.start)) w.few_states,
      start_again o.states o.start o.ahead w.start w.few_states,
    ) refl

pub record ClosingThen (o : Opening) (m : Machine) : Type 0 where
  pub accepted : List ℕ
  pub words : o.ahead ≡ codes "accept" ∷ map decimal accepted ++ codes "." ∷ row_words (length m.letters) (states m) 0 m.targets (codes "endautomaton" ∷ [])
  pub letters : m.letters ≡ o.letters
  pub start : m.start ≡ o.start
  pub states_are : states m ≡ o.states
  pub below : AllByRecursion (λ s. s < states m) accepted
  pub accepts : (s : ℕ) → s < states m → get_or m.accepting s false ≡ list_any (λ t. nat_eq t s) accepted
  pub rows : length m.targets ≡ states m * length m.letters
  pub targets : AllByRecursion (λ t. t < states m) m.targets

pub closing_gives : (o : Opening) (m : Machine) → closing o ≡ Ok m → ClosingThen o m
closing_gives o m e =
    let k = length o.letters in
    let n = o.states in
    let a = both (or_shape 5 (accept_in n o.ahead)) (λ f. followed (rows_part k n n 0 f.1) (λ t. followed (or_shape (6 + n) (end_in t.1)) (λ e.
    Ok (record { letters = o.letters; start = o.start; accepting = marked (replicate n false) f.0; targets = t.0 })))) m e in
    let b = both (rows_part k n n 0 a.value.1) (λ t. followed (or_shape (6 + n) (end_in t.1)) (λ e.
    Ok (record { letters = o.letters; start = o.start; accepting = marked (replicate n false) a.value.0; targets = t.0 }))) m a.second in
    let made : Machine = record { letters = o.letters; start = o.start; accepting = marked (replicate n false) a.value.0; targets = b.value.0 } in
    let c = both (or_shape (6 + n) (end_in b.value.1)) (λ e. Ok made) m b.second in
    let accept = accept_gives n o.ahead a.value.0 a.value.1 (some_there 5 (accept_in n o.ahead) a.value a.first) in
    let rows = rows_give k n n 0 a.value.1 b.value.0 b.value.1 b.first in
    let end : b.value.1 ≡ codes "endautomaton" ∷ [] = end_gives b.value.1 (some_there (6 + n) (end_in b.value.1) tt c.first) in
    let count : length (marked (replicate n false) a.value.0) ≡ n = length_marked a.value.0 (replicate n false) ∙ length_unseen n in
    let same : made ≡ m = ok_same made m c.second in
    let P : Machine → Type 0 = ClosingThen o in
    subst P same (record {
      accepted = a.value.0;
      words = accept.words ∙ ap (λ x. codes "accept" ∷ map decimal a.value.0 ++ codes "." ∷ x)
          (rows.words ∙ (λ i. row_words k (sym count i) 0 b.value.0 (end i)));
      letters = refl;
      start = refl;
      states_are = count;
      below = rw count accept.below;
      accepts = λ s l. marked_listed n a.value.0 s (omega (arith, l, count));
      rows = rw count rows.count;
      targets = rw count rows.below;
    })

pub closing_again : (o : Opening) (m : Machine) (accepted : List ℕ) → IsOpening o → m.letters ≡ o.letters → m.start ≡ o.start → states m ≡ o.states
    → o.ahead ≡ codes "accept" ∷ map decimal accepted ++ codes "." ∷ row_words (length m.letters) (states m) 0 m.targets (codes "endautomaton" ∷ [])
    → AllByRecursion (λ s. s < states m) accepted → ((s : ℕ) → s < states m → get_or m.accepting s false ≡ list_any (λ t. nat_eq t s) accepted)
    → length m.targets ≡ states m * length m.letters → AllByRecursion (λ t. t < states m) m.targets → closing o ≡ Ok m
closing_again o m ss w letters start count ahead below accepts rows targets =
    rw (
      ahead,
      sym letters,
      sym start,
      sym count,
      accept_again (states m) ss (row_words (length m.letters) (states m) 0 m.targets (codes "endautomaton" ∷ [])) few below,
      rows_again (length m.letters) (states m) (states m) 0 m.targets (codes "endautomaton" ∷ []) few (omega (arith, few)) rows targets,
      marks_are (states m) ss m.accepting refl accepts,
    ) refl
  where
    few : states m ≤ 1000
    few = omega (arith, w.few_states, count)

pub text_of_read : (ws : List Word) (m : Machine) → automaton_of ws ≡ Ok m → IsTextOf ws m
text_of_read ws m e =
    let a = both (opening ws) closing m e in
    let o = opening_gives ws a.value a.first in
    let c = closing_gives a.value m a.second in
    record {
      name = o.name;
      accepted = c.accepted;
      text = o.words ∙ (λ i. codes "automaton" ∷ o.name ∷ codes "is" ∷ codes "letters" ∷ sym c.letters i ++ codes "." ∷ codes "states" ∷ decimal (sym c.states_are i)
          ∷ codes "." ∷ codes "start" ∷ decimal (sym c.start i) ∷ codes "." ∷ c.words i);
      is_name = o.is_name;
      are_names = rw c.letters o.are_names;
      are_states = c.below;
      accepts = c.accepts;
      is_machine = record {
        letters = rw c.letters o.within.some_letters;
        few_letters = rw c.letters o.within.few_letters;
        different = rw c.letters o.within.different;
        few_states = omega (arith, c.states_are, o.within.few_states);
        start = omega (arith, c.start, c.states_are, o.within.start);
        rows = c.rows;
        targets = c.targets;
      };
    }

pub read_of_text : (ws : List Word) (m : Machine) → IsTextOf ws m → automaton_of ws ≡ Ok m
read_of_text ws m t =
    let i = t.is_machine in
    let rest = codes "accept" ∷ map decimal t.accepted ++ codes "." ∷ row_words (length m.letters) (states m) 0 m.targets (codes "endautomaton" ∷ []) in
    let o : Opening = record { letters = m.letters; states = states m; start = m.start; ahead = rest } in
    let w : IsOpening o = record { some_letters = i.letters; few_letters = i.few_letters; different = i.different; few_states = i.few_states; start = i.start } in
    ap automaton_of t.text ∙ ap (λ p. followed p closing) (opening_again t.name o t.is_name t.are_names w)
    ∙ closing_again o m t.accepted w refl refl refl refl t.are_states t.accepts i.rows i.targets

-- what the code's parts give is within the limits
pub opening_within : (a b c : List Word) (ls letters r q : List Word) (n s : ℕ) (rest : List Word) → letters_part a ≡ Ok (ls, r) → states_part b ≡ Ok (n, q)
    → start_in n c ≡ Some (s, rest) → letters ≡ ls → IsOpening (record { letters = letters; states = n; start = s; ahead = rest })
opening_within a b c ls letters r q n s rest l m t e =
    let x = letters_give a ls r l in
    let y = states_give b n q m in
    let z = start_gives n c s rest t in
    record { some_letters = rw e x.are.some; few_letters = rw e x.are.few; different = rw e x.are.different; few_states = y.few; start = z.below }

pub closing_within : (o : Opening) (ss : List ℕ) (q : List Word) (ts : List ℕ) (r : List Word) → IsOpening o → accept_in o.states o.ahead ≡ Some (ss, q)
    → rows_part (length o.letters) o.states o.states 0 q ≡ Ok (ts, r)
    → IsMachine (record { letters = o.letters; start = o.start; accepting = marked (replicate o.states false) ss; targets = ts })
closing_within o ss q ts r w a e =
    let rows = rows_give (length o.letters) o.states o.states 0 q ts r e in
    let count : length (marked (replicate o.states false) ss) ≡ o.states = length_marked ss (replicate o.states false) ∙ length_unseen o.states in
    record {
      letters = w.some_letters;
      few_letters = w.few_letters;
      different = w.different;
      few_states = omega (arith, count, w.few_states);
      start = omega (arith, count, w.start);
      rows = rw count rows.count;
      targets = rw count rows.below;
    }

pub listed_below : (n : ℕ) (ws : List Word) (ss : List ℕ) (r : List Word) → accept_in n ws ≡ Some (ss, r) → are_below n ss ≡ true
listed_below n ws ss r e = all_below n ss (accept_gives n ws ss r e).below

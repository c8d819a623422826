-- What words ask for.
use Rattle.std.proofs.Common.{◌≡◌, ◌<◌, ◌≤◌, ◌^◌, ◌+◌, ◌-◌, ◌*◌, ◌==◌, ℕ, Bool, true, false, Bor, List, [], ◌∷◌, ◌++◌, length, take, drop, slice_index_or, decimal, codes, refl, ap, ap₂, sym, ◌∙◌, subst, arith, Option, Some, None, map, if◌then◌else◌}
use Rattle.std.specs.Prelude.{MatchOption, IfOk, Result, Ok, Err}
use Rattle.std.proofs.lemmas.Fmt.{decimal_injective}
use Rattle.std.proofs.lemmas.List.{drop_more, take_rest}
use Rattle.std.proofs.lemmas.Option.{same_Some}
use Rattle.clap.specs.Faults.{fault_of}
use Rattle.clap.specs.Simple.{matches_of}
use Rattle.clap.specs.Walk.{Row, first_of}
use Rattle.circ_lib.specs.Library.{library_text}
use Rattle.circ_top.specs.Command.{Command, Check, Prove, Show, Contexts, Reduce, Same, Differ, Trace, Regex, Upgrade, Expand, Library, Generate}
use Rattle.circ_top.specs.Command.{IsCommand, check, prove, show, contexts, reduce, same, differ, trace, regex, upgrade, expand, library, generate, IsNoneOfTable}
use Rattle.circ_top.specs.Command.{AreNumbersOf, AreNoNumbers, Asks, IsNoCommand, IsBounded, plain_request}
use Rattle.circ_top.specs.Words.{circ_app, IsNoNumber, IsBudget, IsFlag, Finds, FindsNothing}
use Rattle.circ_reports.specs.declared.report.Report.{Report}
use Rattle.circ_reports.specs.declared.report.Report.TheVariants.{Goals, Relation}
use Rattle.circ_top.specs.declared.request.Request.{Request}
use Rattle.circ_turn.specs.declared.search.Limits.{Limits}

-- ---- the table as a function

-- what stands in the table under a name, for the words given: a command, a text by its library's name, a chain by the word of its number, or nothing
data TableRow : Type 0 where
  Fixed : Command → TableRow
  Text_of : (text : Option (List ℕ)) → TableRow
  Chain_of : (word : List ℕ) → TableRow
  Numbers_of : (theory proof goal : List ℕ) (entries : List (List ℕ)) → TableRow
  Nothing : TableRow

abbrev IsRow : TableRow → Command → Type 0
IsRow (Fixed c) d = d ≡ c
IsRow (Text_of o) d = (text : List ℕ) × (o ≡ Some text) × (d ≡ Library text)
IsRow (Chain_of word) d = (n : ℕ) × (2 ≤ n) × (n ≤ 1000) × (word ≡ decimal n) × (d ≡ Generate n)
IsRow (Numbers_of t p g es) d =
    (goal : ℕ) × (ks : List ℕ) × (goal ≤ 4294967295) × (g ≡ decimal goal) × AreNumbersOf ks es × (d ≡ Expand t p goal ks)
IsRow Nothing d = ⊥

-- the second and the third byte of a name, by which the names are told apart
abbrev key : List ℕ → ℕ
key (x ∷ y ∷ z ∷ rest) = y * 256 + z
key _ = 0

abbrev has_key : (name key_of : List ℕ) → Bool
has_key name other = key name == key other

abbrev row_of_one : Limits → (name word : List ℕ) → TableRow
row_of_one k n w =
    if has_key n (codes "show") then Fixed (Show w)
    else if has_key n (codes "contexts") then Fixed (Contexts k.steps w)
    else if has_key n (codes "library") then Text_of (library_text w)
    else if has_key n (codes "generate") then Chain_of w
    else Nothing

abbrev row_of_two : Limits → (name first second : List ℕ) → TableRow
row_of_two k n v w =
    if has_key n (codes "check") then Fixed (Check Goals v w)
    else if has_key n (codes "relation") then Fixed (Check Relation v w)
    else if has_key n (codes "reduce") then Fixed (Reduce k.steps v w)
    else if has_key n (codes "same") then Fixed (Same v w)
    else if has_key n (codes "differ") then Fixed (Differ k v w)
    else if has_key n (codes "trace") then Fixed (Trace k v w)
    else Nothing

abbrev row_of_three : Limits → (name first second third : List ℕ) → (more : List (List ℕ)) → TableRow
row_of_three k n u v w [] =
    if has_key n (codes "prove") then Fixed (Prove k u v w)
    else if has_key n (codes "regex") then Fixed (Regex k u v w)
    else if has_key n (codes "upgrade") then Fixed (Upgrade u v w)
    else Nothing
row_of_three k n u v w (x ∷ xs) = Nothing

abbrev row_of : Limits → (name : List ℕ) → (given : List (List ℕ)) → TableRow
row_of k n (w ∷ []) = row_of_one k n w
row_of k n (v ∷ w ∷ []) = row_of_two k n v w
row_of k n (u ∷ v ∷ w ∷ ws) = if has_key n (codes "expand") then Numbers_of u v w ws else row_of_three k n u v w ws
row_of k n [] = Nothing

module _ (k : Limits) (name : List ℕ) (given : List (List ℕ)) where
  with_name : (n : List ℕ) (ws : List (List ℕ)) (c : Command) → name ≡ n → given ≡ ws → IsRow (row_of k n ws) c → IsRow (row_of k name given) c
  with_name n ws c e i r =
      let P : List ℕ → Type 0 = λ x. IsRow (row_of k x given) c in
      let Q : List (List ℕ) → Type 0 = λ x. IsRow (row_of k n x) c in
      subst P (sym e) (subst Q (sym i) r)

  -- a command of the table is that of its row
  in_row : (c : Command) → IsCommand k name given c → IsRow (row_of k name given) c
  in_row _ (check Goals t p e i) = with_name (codes "check") (t ∷ p ∷ []) (Check Goals t p) e i refl
  in_row _ (check Relation t p e i) = with_name (codes "relation") (t ∷ p ∷ []) (Check Relation t p) e i refl
  in_row _ (prove t s p e i) = with_name (codes "prove") (t ∷ s ∷ p ∷ []) (Prove k t s p) e i refl
  in_row _ (show t e i) = with_name (codes "show") (t ∷ []) (Show t) e i refl
  in_row _ (contexts t e i) = with_name (codes "contexts") (t ∷ []) (Contexts k.steps t) e i refl
  in_row _ (reduce t s e i) = with_name (codes "reduce") (t ∷ s ∷ []) (Reduce k.steps t s) e i refl
  in_row _ (same v w e i) = with_name (codes "same") (v ∷ w ∷ []) (Same v w) e i refl
  in_row _ (differ t s e i) = with_name (codes "differ") (t ∷ s ∷ []) (Differ k t s) e i refl
  in_row _ (trace t s e i) = with_name (codes "trace") (t ∷ s ∷ []) (Trace k t s) e i refl
  in_row _ (regex u v p e i) = with_name (codes "regex") (u ∷ v ∷ p ∷ []) (Regex k u v p) e i refl
  in_row _ (upgrade t p q e i) = with_name (codes "upgrade") (t ∷ p ∷ q ∷ []) (Upgrade t p q) e i refl
  in_row _ (expand t p goal ks es small are e i) =
      with_name (codes "expand") (t ∷ p ∷ decimal goal ∷ es) (Expand t p goal ks) e i (goal, ks, small, refl, are, refl)
  in_row _ (library w text e i m) = with_name (codes "library") (w ∷ []) (Library text) e i (text, m, refl)
  in_row _ (generate n few most e i) = with_name (codes "generate") (decimal n ∷ []) (Generate n) e i (n, few, most, refl, refl)

-- words are these numbers and no other
same_numbers : (ms ns : List ℕ) (words : List (List ℕ)) → AreNumbersOf ms words → AreNumbersOf ns words → ms ≡ ns
same_numbers [] [] words a b = refl
same_numbers [] (n ∷ ns) words a b = absurd (let never : [] ≡ decimal n ∷ map decimal ns = sym a.1 ∙ b.1 in cc)
same_numbers (m ∷ ms) [] words a b = absurd (let never : decimal m ∷ map decimal ms ≡ [] = sym a.1 ∙ b.1 in cc)
same_numbers (m ∷ ms) (n ∷ ns) words a b =
    let both : decimal m ∷ map decimal ms ≡ decimal n ∷ map decimal ns = sym a.1 ∙ b.1 in
    let first : m ≡ n = decimal_injective m n (omega (arith, a.0.0)) (omega (arith, b.0.0)) (cc) in
    ap₂ (λ x xs. x ∷ xs) first (same_numbers ms ns (map decimal ms) (a.0.1, refl) (b.0.1, cc))

-- where a word is no number, the words are no numbers
none_further : (ns xs : List ℕ) (word : List ℕ) (rest words : List (List ℕ)) → map decimal xs ++ word ∷ rest ≡ words → AreNumbersOf ns words
    → IsNoNumber 4294967295 word → ⊥
none_further [] [] word rest words e a h = let never : word ∷ rest ≡ [] = e ∙ a.1 in cc
none_further (n ∷ ns) [] word rest words e a h =
    let both : word ∷ rest ≡ decimal n ∷ map decimal ns = e ∙ a.1 in
    let first : word ≡ decimal n = cc in
    h n first a.0.0
none_further [] (x ∷ xs) word rest words e a h = let never : decimal x ∷ (map decimal xs ++ word ∷ rest) ≡ [] = e ∙ a.1 in cc
none_further (n ∷ ns) (x ∷ xs) word rest words e a h =
    let both : decimal x ∷ (map decimal xs ++ word ∷ rest) ≡ decimal n ∷ map decimal ns = e ∙ a.1 in
    let tail : map decimal xs ++ word ∷ rest ≡ map decimal ns = cc in
    none_further ns xs word rest (map decimal ns) tail (a.0.1, refl) h

-- a row has one command at most
same_in_row : (r : TableRow) (c d : Command) → IsRow r c → IsRow r d → c ≡ d
same_in_row (Fixed x) c d a b = a ∙ sym b
same_in_row (Text_of o) c d a b = a.2 ∙ ap Library (same_Some a.0 b.0 (sym a.1 ∙ b.1)) ∙ sym b.2
same_in_row (Chain_of w) c d a b =
    a.4 ∙ ap Generate (decimal_injective a.0 b.0 (omega (arith, a.2)) (omega (arith, b.2)) (sym a.3 ∙ b.3)) ∙ sym b.4
same_in_row (Numbers_of t p g es) c d a b =
    let goal : a.0 ≡ b.0 = decimal_injective a.0 b.0 (omega (arith, a.2)) (omega (arith, b.2)) (sym a.3 ∙ b.3) in
    a.5 ∙ ap₂ (Expand t p) goal (same_numbers a.1 b.1 es a.4 b.4) ∙ sym b.5
same_in_row Nothing c d a b = absurd a

-- a name and its words stand in the table once
same_of_table : (k : Limits) (n : List ℕ) (given : List (List ℕ)) (c d : Command) → IsCommand k n given c → IsCommand k n given d → c ≡ d
same_of_table k n given c d a b = same_in_row (row_of k n given) c d (in_row k n given c a) (in_row k n given d b)

-- the chain of a number, by the word that writes it
module _ (k : Limits) (name word : List ℕ) (named : name ≡ codes "generate") where
  no_chain : ((n : ℕ) → 2 ≤ n → n ≤ 1000 → word ≡ decimal n → ⊥) → IsNoneOfTable k name (word ∷ [])
  no_chain h c i =
      let P : List ℕ → Type 0 = λ x. IsRow (row_of k x (word ∷ [])) c in
      let r : IsRow (Chain_of word) c = subst P named (in_row k name (word ∷ []) c i) in
      h r.0 r.1 r.2 r.3

  pub chain_in_table : (o : Option Request)
      → MatchOption o ((n : ℕ) → 2 ≤ n → n ≤ 1000 → word ≡ decimal n → ⊥)
      (λ r. (n : ℕ) × (plain_request r ≡ Generate n) × (2 ≤ n) × (n ≤ 1000) × (word ≡ decimal n))
      → MatchOption o (IsNoneOfTable k name (word ∷ [])) (λ r. IsCommand k name (word ∷ []) (plain_request r))
  chain_in_table None h = no_chain h
  chain_in_table (Some r) (n, is, few, most, w) =
      let P : Command → Type 0 = IsCommand k name (word ∷ []) in subst P (sym is) (generate n few most named (ap (λ x. x ∷ []) w))

-- the word at which a loop stands is no number, so the words are none
pub no_word : (ns xs : List ℕ) (words : List (Bor (List ℕ))) (i : ℕ) (d : Bor (List ℕ)) → i < length words
    → map decimal xs ++ map (λ x. x.now) (drop i words) ≡ map (λ x. x.now) words → AreNumbersOf ns (map (λ x. x.now) words)
    → IsNoNumber 4294967295 (slice_index_or words i d).now → ⊥
no_word ns xs words i d l e a h =
    let P : List (Bor (List ℕ)) → Type 0 = λ ws. map decimal xs ++ map (λ x. x.now) ws ≡ map (λ x. x.now) words in
    let at : map decimal xs ++ (slice_index_or words i d).now ∷ map (λ x. x.now) (drop (i + 1) words) ≡ map (λ x. x.now) words = subst P (drop_more words i d l) e in
    none_further ns xs (slice_index_or words i d).now (map (λ x. x.now) (drop (i + 1) words)) (map (λ x. x.now) words) at a h

-- what the words of `expand` make
module _ (k : Limits) (name : List ℕ) (d : Bor (List ℕ)) (goal : ℕ) (ks : List ℕ) (named : name ≡ codes "expand") (small : goal ≤ 4294967295) where
  expand_at : (words : List (Bor (List ℕ))) → 3 ≤ length words
      → (slice_index_or words 2 d).now ≡ decimal goal → AreNumbersOf ks (map (λ x. x.now) (drop 3 words))
      → IsCommand k name (map (λ x. x.now) words) (Expand (slice_index_or words 0 d).now (slice_index_or words 1 d).now goal ks)
  expand_at [] l g are = absurd (omega (arith, l))
  expand_at (x ∷ []) l g are = absurd (omega (arith, l))
  expand_at (x ∷ y ∷ []) l g are = absurd (omega (arith, l))
  expand_at (x ∷ y ∷ z ∷ zs) l g are =
      expand x.now y.now goal ks (map (λ x. x.now) zs) small are named (ap (λ w. x.now ∷ y.now ∷ w ∷ map (λ x. x.now) zs) g)

  pub expand_of : (words : List (Bor (List ℕ))) → 3 ≤ length words
      → (slice_index_or words 2 d).now ≡ decimal goal → AreNumbersOf ks (map (λ x. x.now) (take (length words - 3) (drop 3 words)))
      → IsCommand k name (map (λ x. x.now) words) (Expand (slice_index_or words 0 d).now (slice_index_or words 1 d).now goal ks)
  expand_of words l g are =
      let P : List (Bor (List ℕ)) → Type 0 = λ ws. AreNumbersOf ks (map (λ x. x.now) ws) in
      expand_at words l g (subst P (take_rest words 3) are)

-- `clap` finds one thing in the words
same_budget : (usual most : ℕ) (value : Option (List ℕ)) (m n : ℕ) → most < 2 ^ 64 → IsBudget usual most value m → IsBudget usual most value n → m ≡ n
same_budget usual most None m n small a b = a ∙ sym b
same_budget usual most (Some text) m n small a b = decimal_injective m n (omega (arith, small, a.1)) (omega (arith, small, b.1)) (sym a.0 ∙ b.0)

same_flag : (value : Option (List ℕ)) (a b : Bool) → IsFlag value a → IsFlag value b → a ≡ b
same_flag value true true f g = refl
same_flag value true false f g = sym (g.1 (f.0 refl))
same_flag value false true f g = f.1 (g.0 refl)
same_flag value false false f g = refl

abbrev limits_of : (steps derives : ℕ) → (split rewrite : Bool) → Limits
limits_of n m b r = record { steps = n; derives = m; split = b; rewrite = r }

module _ (rows : List Row) (k l : Limits) (m n : List ℕ) (v w : List (List ℕ)) (f : Finds rows k m v) (g : Finds rows l n w) where
  same_limits : k ≡ l
  same_limits =
      let steps = same_budget 100000 1000000 (first_of (codes "steps") rows) k.steps l.steps (omega arith) f.steps g.steps in
      let derives = same_budget 256 10000 (first_of (codes "derives") rows) k.derives l.derives (omega arith) f.derives g.derives in
      let split = same_flag (first_of (codes "split") rows) k.split l.split f.split g.split in
      let rewrite = same_flag (first_of (codes "rewrite") rows) k.rewrite l.rewrite f.rewrite g.rewrite in
      ap₂ (λ n m. limits_of n m k.split k.rewrite) steps derives ∙ ap₂ (limits_of l.steps l.derives) split rewrite

  same_name : m ≡ n
  same_name = same_Some m n (sym f.name_is ∙ g.name_is)

  same_given : v ≡ w
  same_given = same_Some v w (sym f.given_are ∙ g.given_are)

module _ (ws : List (List ℕ)) (rows : List Row) (e : rows ≡ matches_of circ_app ws) where
  -- what `clap` finds lacks a part
  pub nothing_asked : FindsNothing rows → IsNoCommand ws
  nothing_asked n c a = n a.limits a.name a.given (rw e a.finds)

  module _ (limits : Limits) (name : List ℕ) (given : List (List ℕ)) (f : Finds rows limits name given) where
    -- the table has nothing for what `clap` finds
    none_asked : IsNoneOfTable limits name given → IsNoCommand ws
    none_asked n c a =
        let g : Finds rows a.limits a.name a.given = rw e a.finds in
        let k = same_limits rows limits a.limits name a.name given a.given f g in
        let m = same_name rows limits a.limits name a.name given a.given f g in
        let v = same_given rows limits a.limits name a.name given a.given f g in
        n c (rw (k, m, v) a.is)

    -- what the table has for what `clap` finds
    pub asked_by_table : (o : Option Request) → fault_of circ_app ws ≡ []
        → MatchOption o (IsNoneOfTable limits name given) (λ r. IsCommand limits name given (plain_request r))
        → MatchOption o (IsNoCommand ws) (λ r. Asks ws (plain_request r))
    asked_by_table None t n = none_asked n
    asked_by_table (Some r) t i = record { limits = limits; name = name; given = given; taken = t; finds = rw e at f; is = i }

    -- the same where it takes memory to read them
    pub asked_if : {E : Type 0} (r : Result (Option Request) E) → fault_of circ_app ws ≡ []
        → IfOk r (λ o. MatchOption o (IsNoneOfTable limits name given) (λ r. IsCommand limits name given (plain_request r)))
        → IfOk r (λ o. MatchOption o (IsNoCommand ws) (λ r. Asks ws (plain_request r)))
    asked_if (Ok o) t i = asked_by_table o t i
    asked_if (Err e) t i = tt

-- a budget is at most what an option may say
budget_bounded : (value : Option (List ℕ)) (n : ℕ) → IsBudget 256 10000 value n → n ≤ 10000
budget_bounded None n b = omega (arith, b)
budget_bounded (Some text) n b = b.1

pub asks_bounded : (ws : List (List ℕ)) (c : Command) → Asks ws c → IsBounded c
asks_bounded ws c a = go c a.is
  where
    go : (c : Command) → IsCommand a.limits a.name a.given c → IsBounded c
    go _ (check r t p e i) = tt
    go _ (prove t s p e i) = tt
    go _ (show t e i) = tt
    go _ (contexts t e i) = tt
    go _ (reduce t s e i) = tt
    go _ (same v w e i) = tt
    go _ (trace t s e i) = tt
    go _ (differ t s e i) = budget_bounded (first_of (codes "derives") (matches_of circ_app ws)) a.limits.derives a.finds.derives
    go _ (regex u v p e i) = tt
    go _ (upgrade t p q e i) = tt
    go _ (expand t p goal ks es small are e i) = tt
    go _ (library w text e i m) = tt
    go _ (generate n few most e i) = tt

-- words ask for one command
pub same_command : (ws : List (List ℕ)) (c d : Command) → Asks ws c → Asks ws d → c ≡ d
same_command ws c d a b =
    let name = same_name (matches_of circ_app ws) a.limits b.limits a.name b.name a.given b.given a.finds b.finds in
    let given = same_given (matches_of circ_app ws) a.limits b.limits a.name b.name a.given b.given a.finds b.finds in
    let limits = same_limits (matches_of circ_app ws) a.limits b.limits a.name b.name a.given b.given a.finds b.finds in
    same_of_table b.limits b.name b.given c d (rw (limits, name, given) at a.is) b.is

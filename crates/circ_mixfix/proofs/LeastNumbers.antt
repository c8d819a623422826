-- Numbers of sorts: operators more, sorts more, and what the numbers say of symbols.
use Rattle.std.proofs.Common.{◌≡◌, ◌⊎◌, ◌≤◌, ◌<◌, ◌+◌, ◌++◌, ℕ, suc, List, [], ◌∷◌, length, drop, get_or, Bool, true, false, ◌&&◌, nat_eq, Option, Some, None, inl, inr, sym, ◌∙◌, ap, subst, refl, arith}
use Rattle.std.specs.List.{slice_get, list_any, Contains}
use Rattle.std.specs.Option.{option_eq}
use Rattle.std.specs.Cmp.Lexicographic.{pointwise, bytes_decides}
use Rattle.std.proofs.lemmas.Bool.{cases_eq}
use Rattle.std.proofs.lemmas.Option.{slice_get_within, slice_get-get_or}
use Rattle.std.proofs.lemmas.List.{get_or-set_other, length-set}
use Rattle.std.proofs.Math.ListN.{set}
use Rattle.circ_term.proofs.Within.{drop_read}
use Rattle.circ_spelling.specs.declared.grammar.Variable.{Variable}
use Rattle.circ_form.specs.declared.forms.Piece.{Piece}
use Rattle.circ_form.specs.declared.forms.Piece.TheVariants as piece
use Rattle.circ_form.specs.Form.{first_word, is_hole_piece, hole_count}
use Rattle.circ_theory.specs.declared.parts.Side.{Side}
use Rattle.circ_theory.specs.Signature.{Signature, Operator}
use Rattle.circ_theory.specs.Operators.{IsOperator, form_fits, ops_by_word, first_sort, ops_by_word_and_sort}
use Rattle.circ_theory.proofs.Lists.{slice_get-front}
use Rattle.circ_theory.proofs.Noting.{sorts_decide}
use Rattle.circ_theory.proofs.Rewriting.{contains_at}
use Rattle.circ_mixfix.specs.Symbols.{Symbol, Word, Hole, inner_symbols, form_symbols, more_arguments, arguments, symbols_of}
use Rattle.circ_mixfix.specs.Reached.{Reached}
use Rattle.circ_mixfix.specs.Least.{StandsIn, least_of, least_for, own_words, AreLeast, AreCandidates, IsReached, AddsReached, AreReached, AreListed, AreSettled}
use Rattle.circ_mixfix.proofs.SymbolWords.{fits, some_hole, one_more, no_holes}
use Rattle.circ_mixfix.proofs.RuleLists.{place_there}

-- what stands in one of two lists stands in both together
pub stands_front : (xs ys : List ℕ) (x : ℕ) → StandsIn xs x → StandsIn (xs ++ ys) x
stands_front xs ys x h = (h.0, slice_get-front xs ys h.0 x h.1)

pub stands_back : (xs ys : List ℕ) (x : ℕ) → StandsIn ys x → StandsIn (xs ++ ys) x
stands_back [] ys x h = h
stands_back (y ∷ xs) ys x h = let r = stands_back xs ys x h in (suc r.0, r.1)

-- a list with one number more
pub stands_last : (xs : List ℕ) (x : ℕ) → StandsIn (xs ++ x ∷ []) x
stands_last xs x = stands_back xs (x ∷ []) x (0, refl)

-- an operator is among those of its first word, and of its first argument's sort
pub of_word : (sig : Signature) (word : List ℕ) (f : ℕ) (o : Operator) → slice_get sig.ops f ≡ Some o → word ≡ first_word o.form → StandsIn (ops_by_word sig word) f
of_word sig word f o is first =
    let r = place_there (λ p. pointwise nat_eq word (first_word p.form)) 0 sig.ops f o is ((bytes_decides word (first_word o.form)).1 first) in
    let zero_more : 0 + f ≡ f = omega arith in
    (r.0, r.1 ∙ ap (λ k. Some k) zero_more)

both_true : (a b : Bool) → a ≡ true → b ≡ true → (a && b) ≡ true
both_true a b e f = rw (e, f) refl

pub of_sort : (sig : Signature) (word : List ℕ) (s : Option ℕ) (f : ℕ) (o : Operator) → slice_get sig.ops f ≡ Some o → word ≡ first_word o.form → first_sort o ≡ s
    → StandsIn (ops_by_word_and_sort sig word s) f
of_sort sig word s f o is first sort =
    let r = place_there (λ p. pointwise nat_eq word (first_word p.form) && option_eq nat_eq s (first_sort p)) 0 sig.ops f o is
    (both_true (pointwise nat_eq word (first_word o.form)) (option_eq nat_eq s (first_sort o)) ((bytes_decides word (first_word o.form)).1 first) ((sorts_decide s (first_sort o)).1 (sym sort))) in
    let zero_more : 0 + f ≡ f = omega arith in
    (r.0, r.1 ∙ ap (λ k. Some k) zero_more)

-- all operators of the word are added
pub adds_all : (sig : Signature) (sorts word old new : List ℕ) → new ≡ old ++ ops_by_word sig word → AddsReached sig sorts word old new
adds_all sig sorts word old new e =
    let P : List ℕ → Type 0 = AddsReached sig sorts word old in
    subst P (sym e) (record {
      kept = λ f h. stands_front old (ops_by_word sig word) f h;
      added = λ f o is first r. stands_back old (ops_by_word sig word) f (of_word sig word f o is first);
    })

-- those of the first i sorts are added
pub record AddsTo (sig : Signature) (sorts : List ℕ) (i : ℕ) (word old new : List ℕ) : Type 0 where
  pub kept : (f : ℕ) → StandsIn old f → StandsIn new f
  pub constants : (f : ℕ) (o : Operator) → slice_get sig.ops f ≡ Some o → word ≡ first_word o.form → first_sort o ≡ None → StandsIn new f
  pub others : (f k s : ℕ) (o : Operator) → k < i → slice_get sorts k ≡ Some s → slice_get sig.ops f ≡ Some o → word ≡ first_word o.form → first_sort o ≡ Some s → StandsIn new f

pub adds_constants : (sig : Signature) (sorts word old new : List ℕ) → new ≡ old ++ ops_by_word_and_sort sig word None → AddsTo sig sorts 0 word old new
adds_constants sig sorts word old new e =
    let P : List ℕ → Type 0 = AddsTo sig sorts 0 word old in
    let more = ops_by_word_and_sort sig word None in
    subst P (sym e) (record {
      kept = λ f h. stands_front old more f h;
      constants = λ f o is first none. stands_back old more f (of_sort sig word None f o is first none);
      others = λ f k s o l. absurd (omega arith);
    })

pub adds_sort : (sig : Signature) (sorts : List ℕ) (i d : ℕ) (word old mid new : List ℕ) → i < length sorts → AddsTo sig sorts i word old mid
    → new ≡ mid ++ ops_by_word_and_sort sig word (Some (get_or sorts i d)) → AddsTo sig sorts (i + 1) word old new
adds_sort sig sorts i d word old mid new within h e =
    let P : List ℕ → Type 0 = AddsTo sig sorts (i + 1) word old in
    subst P (sym e) (record {
      kept = λ f a. stands_front mid more f (h.kept f a);
      constants = λ f o is first none. stands_front mid more f (h.constants f o is first none);
      others = λ f k s o l at is first sort. go f k s o l at is first sort (cases_eq k i);
    })
  where
    more : List ℕ
    more = ops_by_word_and_sort sig word (Some (get_or sorts i d))

    go : (f k s : ℕ) (o : Operator) → k < i + 1 → slice_get sorts k ≡ Some s → slice_get sig.ops f ≡ Some o → word ≡ first_word o.form → first_sort o ≡ Some s → ((k ≡ i) ⊎ (k ≡ i → ⊥))
        → StandsIn (mid ++ more) f
    go f k s o l at is first sort (inl same) =
        let here : Some (get_or sorts i d) ≡ Some s = sym (slice_get-get_or sorts i d within) ∙ ap (slice_get sorts) (sym same) ∙ at in
        stands_back mid more f (of_sort sig word (Some (get_or sorts i d)) f o is first (sort ∙ sym here))
    go f k s o l at is first sort (inr other) = stands_front mid more f (h.others f k s o (omega arith) at is first sort)

pub adds_done : (sig : Signature) (sorts : List ℕ) (i : ℕ) (word old new : List ℕ) → length sorts ≤ i → AddsTo sig sorts i word old new → AddsReached sig sorts word old new
adds_done sig sorts i word old new all h = record { kept = h.kept; added = λ f o is first r. go f o is first r (first_sort o) refl }
  where
    go : (f : ℕ) (o : Operator) → slice_get sig.ops f ≡ Some o → word ≡ first_word o.form → IsReached sorts o → (s : Option ℕ) → first_sort o ≡ s → StandsIn new f
    go f o is first r None e = h.constants f o is first e
    go f o is first r (Some s) e = let at = r s e in let l = slice_get_within sorts at.0 s at.1 in h.others f at.0 s o (omega arith) at.1 is first e

-- a word more
pub none_reached : (sig : Signature) (ws : List (List ℕ)) (sorts fs : List ℕ) → AreReached sig ws sorts 0 fs
none_reached sig ws sorts fs f n o l = absurd (omega arith)

pub reached_step : (sig : Signature) (ws : List (List ℕ)) (sorts : List ℕ) (m : ℕ) (word old new : List ℕ) → slice_get ws m ≡ Some word → AddsReached sig sorts word old new
    → AreReached sig ws sorts m old → AreReached sig ws sorts (m + 1) new
reached_step sig ws sorts m word old new at add h f n o l is first r = go (cases_eq n m)
  where
    go : ((n ≡ m) ⊎ (n ≡ m → ⊥)) → StandsIn new f
    go (inl same) =
        let here : Some word ≡ Some (first_word o.form) = sym at ∙ ap (slice_get ws) (sym same) ∙ first in
        add.added f o is (cc here) r
    go (inr other) = add.kept f (h f n o (omega arith) is first r)

-- what the numbers of the argument sorts are together
abbrev pub least_of_all : List ℕ → List ℕ → ℕ
least_of_all least [] = 0
least_of_all least (s ∷ ss) = least_of least s + least_of_all least ss

-- symbols are so many tokens at least
inner_least : (least : List ℕ) (p : ℕ) (side : Side) (ps : List Piece) (ss : List ℕ) → hole_count ps ≡ length ss
    → least_for least (inner_symbols p side ps ss) + length ss ≡ least_of_all least ss + length ps
inner_least least p side [] [] e = refl
inner_least least p side [] (s ∷ ss) e = absurd (cc)
inner_least least p side (piece.Word w ∷ ps) ss e = let r = inner_least least p side ps ss e in omega arith
inner_least least p side (piece.Hole ∷ ps) [] e = let k = one_more ps in absurd (omega arith)
inner_least least p side (piece.Hole ∷ ps) (s ∷ ss) e = let k = one_more ps in let r = inner_least least p side ps ss (omega arith) in omega arith

form_least : (least : List ℕ) (p : ℕ) (side : Side) (ps : List Piece) (ss : List ℕ) → hole_count ps ≡ length ss
    → least_for least (form_symbols p side ps ss) + length ss ≡ least_of_all least ss + length ps
form_least least p side [] [] e = refl
form_least least p side [] (s ∷ ss) e = absurd (cc)
form_least least p side (piece.Word w ∷ ps) ss e = inner_least least p side (piece.Word w ∷ ps) ss e
form_least least p side (piece.Hole ∷ ps) [] e = let k = one_more ps in absurd (omega arith)
form_least least p side (piece.Hole ∷ ps) (s ∷ ss) e = let k = one_more ps in let r = inner_least least p side ps ss (omega arith) in omega arith

holes_within : (ps : List Piece) → hole_count ps ≤ length ps
holes_within [] = omega arith
holes_within (piece.Hole ∷ ps) = let e = one_more ps in let r = holes_within ps in omega arith
holes_within (piece.Word w ∷ ps) = let r = holes_within ps in omega arith

more_least : (least : List ℕ) (ss : List ℕ) → least_for least (more_arguments ss) ≡ least_of_all least ss + length ss + 1
more_least least [] = refl
more_least least (s ∷ ss) = let r = more_least least ss in omega arith

arguments_least : (least : List ℕ) (ss : List ℕ) → least_of_all least ss + length ss ≤ least_for least (arguments ss)
arguments_least least [] = omega arith
arguments_least least (s ∷ ss) = let r = more_least least ss in omega arith

least_append : (least : List ℕ) (ps qs : List Symbol) → least_for least (ps ++ qs) ≡ least_for least ps + least_for least qs
least_append least [] qs = omega arith
least_append least (Word w ∷ ps) qs = let r = least_append least ps qs in omega arith
least_append least (Hole s b ∷ ps) qs = let r = least_append least ps qs in omega arith

pub symbols_least : (least : List ℕ) (o : Operator) → form_fits o ≡ true → own_words o + least_of_all least o.args ≤ least_for least (symbols_of o)
symbols_least least o h = go (list_any is_hole_piece o.form) refl
  where
    go : (b : Bool) → list_any is_hole_piece o.form ≡ b → own_words o + least_of_all least o.args ≤ least_for least (symbols_of o)
    go true e =
        rw e (let f = fits o h (some_hole o.form e) in let w = holes_within o.form in let r = form_least least o.prec o.side o.form o.args f in omega arith)
    go false e =
        rw e
        (let n = no_holes o.form e in
        let a = inner_least least 0 o.side o.form [] (omega arith) in
        let b = arguments_least least o.args in
        let c = least_append least (inner_symbols 0 o.side o.form []) (arguments o.args) in
        omega arith)

-- the sum, an argument more
pub sum_step : (least args : List ℕ) (i x sum new own : ℕ) → i < length args → x ≡ get_or args i x → new ≤ sum + least_of least x
    → sum + least_of_all least (drop i args) ≤ own → new + least_of_all least (drop (i + 1) args) ≤ own
sum_step least args i x sum new own within is more h =
    let e : least_of_all least (drop i args) ≡ least_of least x + least_of_all least (drop (i + 1) args) = ap (least_of_all least) (drop_read args i x within is) in
    omega arith

-- the first argument's number is no more than that of the symbols
first_least : (least : List ℕ) (o : Operator) (s : ℕ) → form_fits o ≡ true → first_sort o ≡ Some s → least_of least s ≤ least_for least (symbols_of o)
first_least least o s h e = go o.args refl (symbols_least least o h)
  where
    go : (ss : List ℕ) → o.args ≡ ss → own_words o + least_of_all least o.args ≤ least_for least (symbols_of o) → least_of least s ≤ least_for least (symbols_of o)
    go [] a l = absurd (let z = sym (ap (λ ss. slice_get ss 0) a) ∙ e in cc z)
    go (t ∷ ss) a l =
        let q : Some t ≡ Some s = sym (ap (λ ss. slice_get ss 0) a) ∙ e in
        let k : t ≡ s = cc q in
        let m : least_of_all least o.args ≡ least_of least t + least_of_all least ss = ap (least_of_all least) a in
        let n : least_of least t ≡ least_of least s = ap (least_of least) k in
        omega arith

-- all operators that may be used are listed
pub settled_candidates : (sig : Signature) (ws : List (List ℕ)) (vs : List Variable) (most : ℕ) (fs : List ℕ) (r : Reached) → ((o : Operator) → Contains sig.ops o → IsOperator sig o)
    → AreReached sig ws r.sorts (length ws) fs → AreSettled sig vs most fs r → AreCandidates sig ws most r.least fs
settled_candidates sig ws vs most fs r operators h st f o is begun few = h f begun.0 o (slice_get_within ws begun.0 (first_word o.form) begun.1) is begun.1 reach
  where
    known : IsOperator sig o
    known = operators o (contains_at sig.ops f o is)

    reach : IsReached r.sorts o
    reach s e =
        let l = first_least r.least o s known.fits e in
        let a = known.args s (contains_at o.args 0 s e) in
        let w = st.width in
        let m = st.is_most in
        st.listed s (omega arith) (omega arith)

pub settled_least : (sig : Signature) (ws : List (List ℕ)) (vs : List Variable) (most : ℕ) (fs : List ℕ) (r : Reached) → AreSettled sig vs most fs r → AreCandidates sig ws most r.least fs
    → AreLeast sig ws vs most r.least
settled_least sig ws vs most fs r st all = record { variables = st.variables; operators = λ f o is begun few. st.operators f (all f o is begun few) o is few }

-- without numbers
pub all_sorts_candidates : (sig : Signature) (ws : List (List ℕ)) (most : ℕ) (least sorts fs : List ℕ) → ((o : Operator) → Contains sig.ops o → IsOperator sig o)
    → ((s : ℕ) → s < length sig.sorts → StandsIn sorts s) → AreReached sig ws sorts (length ws) fs → AreCandidates sig ws most least fs
all_sorts_candidates sig ws most least sorts fs operators every h f o is begun few =
    h f begun.0 o (slice_get_within ws begun.0 (first_word o.form) begun.1) is begun.1
    (λ s e. every s ((operators o (contains_at sig.ops f o is)).args s (contains_at o.args 0 s e)))

pub without_least : (sig : Signature) (ws : List (List ℕ)) (vs : List Variable) (most : ℕ) (least : List ℕ) → least ≡ [] → AreLeast sig ws vs most least
without_least sig ws vs most least e =
    let P : List ℕ → Type 0 = AreLeast sig ws vs most in
    subst P (sym e) (record { variables = λ n v at. omega arith; operators = λ f o is begun few. omega arith })

-- a sort's number is lowered
pub listed_lower : (most : ℕ) (least sorts new_sorts : List ℕ) (s count : ℕ) → AreListed most least sorts → ((t : ℕ) → StandsIn sorts t → StandsIn new_sorts t) → StandsIn new_sorts s
    → AreListed most (set least s count) new_sorts
listed_lower most least sorts new_sorts s count h kept here t within low = go (cases_eq t s)
  where
    go : ((t ≡ s) ⊎ (t ≡ s → ⊥)) → StandsIn new_sorts t
    go (inl same) = let P : ℕ → Type 0 = StandsIn new_sorts in subst P (sym same) here
    go (inr other) =
        let e = get_or-set_other least s t count 0 other in
        let l = length-set least s count in
        kept t (h t (omega arith) (omega arith))

pub within_sum : (a x m n : ℕ) → a + x ≤ m → m ≤ n → a ≤ n
within_sum a x m n h l = omega arith

-- the sort is reached, or was so before
pub reached_lower : (most : ℕ) (least sorts new : List ℕ) (s count : ℕ) → AreListed most least sorts → new ≡ sorts ++ s ∷ [] → AreListed most (set least s count) new
reached_lower most least sorts new s count h e =
    let P : List ℕ → Type 0 = AreListed most (set least s count) in
    subst P (sym e) (listed_lower most least sorts (sorts ++ s ∷ []) s count h (λ t a. stands_front sorts (s ∷ []) t a) (stands_last sorts s))

pub again_lower : (most : ℕ) (least sorts : List ℕ) (s count : ℕ) → AreListed most least sorts → s < length least → least_of least s ≤ most → AreListed most (set least s count) sorts
again_lower most least sorts s count h within low = listed_lower most least sorts sorts s count h (λ t a. a) (h s within low)

-- one sort more
pub sort_more : (xs new : List ℕ) (i : ℕ) → new ≡ xs ++ i ∷ [] → ((s : ℕ) → s < i → StandsIn xs s) → (s : ℕ) → s < i + 1 → StandsIn new s
sort_more xs new i e h s l = let P : List ℕ → Type 0 = λ ys. StandsIn ys s in subst P (sym e) (go (cases_eq s i))
  where
    go : ((s ≡ i) ⊎ (s ≡ i → ⊥)) → StandsIn (xs ++ i ∷ []) s
    go (inl same) = let Q : ℕ → Type 0 = StandsIn (xs ++ i ∷ []) in subst Q (sym same) (stands_last xs i)
    go (inr other) = stands_front xs (i ∷ []) s (h s (omega arith))

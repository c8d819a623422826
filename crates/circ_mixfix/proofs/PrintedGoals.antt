-- Where operators have words of their own, a printed text is the text of one pair, and of one goal.
use Rattle.std.proofs.Common.{◌≡◌, ◌++◌, ℕ, List, [], ◌∷◌, map, false, codes, sym, ◌∙◌, ap, subst, refl, append_assoc, append-nil}
use Rattle.std.specs.List.{AllByRecursion}
use Rattle.std.proofs.lemmas.List.{append_cancel_left}
use Rattle.circ_lexer.specs.TokenList.{AreTokens, IsToken, run_token}
use Rattle.circ_lexer.proofs.Texts.{tokens_once}
use Rattle.circ_term.specs.Tree.{Tree}
use Rattle.circ_theory.specs.Goal.{Goal}
use Rattle.circ_theory.specs.Signature.{Signature, IsWellSorted}
use Rattle.circ_theory.specs.Theory.{Pair, pair_with, sides, goal}
use Rattle.circ_mixfix.specs.Printing.{further, text_of_pair, text_under, text_of_goal}
use Rattle.circ_mixfix.specs.OwnWords.{IsReadBack, IsNumberedPair}
use Rattle.circ_mixfix.proofs.Cut.{Prints, Ends, prints_tokens, prints_nothing, prints_blank, prints_token, prints_both}
use Rattle.circ_mixfix.proofs.Levels.{is_open}
use Rattle.circ_mixfix.proofs.Printed.{pair_prints, ends_further}
use Rattle.circ_mixfix.proofs.PrintedTokens.{tokens_of_term}
use Rattle.circ_mixfix.proofs.PrintedFronts.{same_end}
use Rattle.circ_mixfix.proofs.ReadBack.{same_tokens}

if_token : IsToken (codes "if")
if_token = run_token (codes "if") (λ (z : codes "if" ≡ []). cc) refl refl

and_token : IsToken (codes "/\\")
and_token = run_token (codes "/\\") (λ (z : codes "/\\" ≡ []). cc) refl refl

-- no parenthesis opens at the beginning
abbrev IsClosed : List (List ℕ) → Type 0
IsClosed [] = Unit {0}
IsClosed (x ∷ xs) = is_open x ≡ false

module _ (sig : Signature) (ok : IsReadBack sig) where
  abbrev T : Tree → List (List ℕ)
  T t = tokens_of_term sig false t

  abbrev Fine : Pair → Type 0
  Fine = IsNumberedPair sig

  abbrev pair_tokens : Pair → List (List ℕ)
  pair_tokens p = T p.left ++ codes "=" ∷ T p.right

  -- conditions behind the first one
  abbrev more_pairs : List Pair → List (List ℕ)
  more_pairs [] = []
  more_pairs (c ∷ cs) = codes "/\\" ∷ (pair_tokens c ++ more_pairs cs)

  abbrev tokens_under : Pair → List Pair → List (List ℕ)
  tokens_under p [] = pair_tokens p
  tokens_under p (c ∷ cs) = pair_tokens p ++ codes "if" ∷ (pair_tokens c ++ more_pairs cs)

  -- ---- the text is cut into them

  one_prints : (p : Pair) → Fine p → Prints (text_of_pair sig p) (pair_tokens p)
  one_prints p h = pair_prints sig ok.operators ok.printable p.left p.right h.sorted.left h.sorted.right

  abbrev more_text : List Pair → List ℕ
  more_text cs = further (codes " /\\ ") (map (text_of_pair sig) cs)

  ends_more : (cs : List Pair) → Ends (more_text cs)
  ends_more cs = ends_further 32 (47 ∷ 92 ∷ 32 ∷ []) (map (text_of_pair sig) cs) (record { ends = λ rest e. refl })

  more_prints : (cs : List Pair) → AllByRecursion Fine cs → Prints (more_text cs) (more_pairs cs)
  more_prints [] h = prints_nothing
  more_prints (c ∷ cs) h =
      let text = text_of_pair sig c in
      let word : Prints (47 ∷ 92 ∷ 32 ∷ text) (codes "/\\" ∷ pair_tokens c) =
      prints_both (codes "/\\") (32 ∷ text) (codes "/\\" ∷ []) (pair_tokens c) (prints_token (codes "/\\") and_token) (prints_blank text (pair_tokens c) (one_prints c h.0)) (record { ends = λ rest e. refl }) in
      prints_both (32 ∷ 47 ∷ 92 ∷ 32 ∷ text) (more_text cs) (codes "/\\" ∷ pair_tokens c) (more_pairs cs) (prints_blank (47 ∷ 92 ∷ 32 ∷ text) (codes "/\\" ∷ pair_tokens c) word) (more_prints cs h.1) (ends_more cs)

  under_prints : (p : Pair) (cs : List Pair) → Fine p → AllByRecursion Fine cs → Prints (text_under sig p cs) (tokens_under p cs)
  under_prints p [] a h = one_prints p a
  under_prints p (c ∷ cs) a h =
      let text = text_of_pair sig c ++ more_text cs in
      let conds : Prints text (pair_tokens c ++ more_pairs cs) = prints_both (text_of_pair sig c) (more_text cs) (pair_tokens c) (more_pairs cs) (one_prints c h.0) (more_prints cs h.1) (ends_more cs) in
      let word : Prints (105 ∷ 102 ∷ 32 ∷ text) (codes "if" ∷ (pair_tokens c ++ more_pairs cs)) =
      prints_both (codes "if") (32 ∷ text) (codes "if" ∷ []) (pair_tokens c ++ more_pairs cs) (prints_token (codes "if") if_token) (prints_blank text _ conds) (record { ends = λ rest e. refl }) in
      rw (append_assoc (text_of_pair sig p) (codes " if ") text)
      (prints_both (text_of_pair sig p) (32 ∷ 105 ∷ 102 ∷ 32 ∷ text) (pair_tokens p) (codes "if" ∷ (pair_tokens c ++ more_pairs cs)) (one_prints p a) (prints_blank (105 ∷ 102 ∷ 32 ∷ text) _ word) (record { ends = λ rest e. refl }))

  -- ---- and they are those of one goal

  -- a stop behind both lists
  longer : (us vs xs ys : List (List ℕ)) → us ++ xs ≡ vs ++ ys → us ++ (xs ++ codes ")" ∷ []) ≡ vs ++ (ys ++ codes ")" ∷ [])
  longer us vs xs ys e = sym (append_assoc us xs (codes ")" ∷ [])) ∙ ap (λ ws. ws ++ codes ")" ∷ []) e ∙ append_assoc vs ys (codes ")" ∷ [])

  last_same : (t u : Tree) (xs ys : List (List ℕ)) → IsWellSorted sig t → IsWellSorted sig u → IsClosed xs → IsClosed ys → T t ++ xs ≡ T u ++ ys → T t ≡ T u
  last_same t u [] [] w v a b e = same_end sig ok t u [] [] (codes ")") (codes ")") w v refl refl (longer (T t) (T u) [] [] e)
  last_same t u [] (y ∷ ys) w v a b e = same_end sig ok t u [] (ys ++ codes ")" ∷ []) (codes ")") y w v refl b (longer (T t) (T u) [] (y ∷ ys) e)
  last_same t u (x ∷ xs) [] w v a b e = same_end sig ok t u (xs ++ codes ")" ∷ []) [] x (codes ")") w v a refl (longer (T t) (T u) (x ∷ xs) [] e)
  last_same t u (x ∷ xs) (y ∷ ys) w v a b e = same_end sig ok t u xs ys x y w v a b e

  pair_same : (p q : Pair) (xs ys : List (List ℕ)) → Fine p → Fine q → IsClosed xs → IsClosed ys → pair_tokens p ++ xs ≡ pair_tokens q ++ ys → (p ≡ q) × (xs ≡ ys)
  pair_same p q xs ys h k a b e =
      let whole : T p.left ++ codes "=" ∷ (T p.right ++ xs) ≡ T q.left ++ codes "=" ∷ (T q.right ++ ys) =
      sym (append_assoc (T p.left) (codes "=" ∷ T p.right) xs) ∙ e ∙ append_assoc (T q.left) (codes "=" ∷ T q.right) ys in
      let left = same_end sig ok p.left q.left (T p.right ++ xs) (T q.right ++ ys) (codes "=") (codes "=") h.sorted.left k.sorted.left refl refl whole in
      let behind : T p.right ++ xs ≡ T q.right ++ ys =
      append_cancel_left (codes "=" ∷ []) (T p.right ++ xs) (T q.right ++ ys)
      (append_cancel_left (T q.left) (codes "=" ∷ (T p.right ++ xs)) (codes "=" ∷ (T q.right ++ ys)) (ap (λ us. us ++ codes "=" ∷ (T p.right ++ xs)) (sym left) ∙ whole)) in
      let right = last_same p.right q.right xs ys h.sorted.right k.sorted.right a b behind in
      let l = same_tokens sig false p.left q.left ok h.sorted.left k.sorted.left h.left k.left left in
      let r = same_tokens sig false p.right q.right ok h.sorted.right k.sorted.right h.right k.right right in
      (ap (λ t. pair_with t p.right) l ∙ ap (pair_with q.left) r, append_cancel_left (T q.right) xs ys (ap (λ us. us ++ xs) (sym right) ∙ behind))

  closed_more : (cs : List Pair) → IsClosed (more_pairs cs)
  closed_more [] = tt
  closed_more (c ∷ cs) = refl

  next_is : (x : List ℕ) (us vs : List (List ℕ)) → x ∷ us ≡ x ∷ vs → us ≡ vs
  next_is x us vs e = cc

  more_same : (cs ds : List Pair) → AllByRecursion Fine cs → AllByRecursion Fine ds → more_pairs cs ≡ more_pairs ds → cs ≡ ds
  more_same [] [] h k e = refl
  more_same [] (d ∷ ds) h k e = absurd (cc e)
  more_same (c ∷ cs) [] h k e = absurd (cc e)
  more_same (c ∷ cs) (d ∷ ds) h k e =
      let one = pair_same c d (more_pairs cs) (more_pairs ds) h.0 k.0 (closed_more cs) (closed_more ds) (next_is (codes "/\\") _ _ e) in
      ap (λ x. x ∷ cs) one.0 ∙ ap (λ xs. d ∷ xs) (more_same cs ds h.1 k.1 one.1)

  under_same : (p q : Pair) (cs ds : List Pair) → Fine p → Fine q → AllByRecursion Fine cs → AllByRecursion Fine ds → tokens_under p cs ≡ tokens_under q ds → (p ≡ q) × (cs ≡ ds)
  under_same p q [] [] a b h k e = ((pair_same p q [] [] a b tt tt (append-nil (pair_tokens p) ∙ e ∙ sym (append-nil (pair_tokens q)))).0, refl)
  under_same p q [] (d ∷ ds) a b h k e =
      let one = pair_same p q [] (codes "if" ∷ (pair_tokens d ++ more_pairs ds)) a b tt refl (append-nil (pair_tokens p) ∙ e) in
      absurd (let z = one.1 in cc z)
  under_same p q (c ∷ cs) [] a b h k e =
      let one = pair_same p q (codes "if" ∷ (pair_tokens c ++ more_pairs cs)) [] a b refl tt (e ∙ sym (append-nil (pair_tokens q))) in
      absurd (let z = one.1 in cc z)
  under_same p q (c ∷ cs) (d ∷ ds) a b h k e =
      let one = pair_same p q (codes "if" ∷ (pair_tokens c ++ more_pairs cs)) (codes "if" ∷ (pair_tokens d ++ more_pairs ds)) a b refl refl e in
      let two = pair_same c d (more_pairs cs) (more_pairs ds) h.0 k.0 (closed_more cs) (closed_more ds) (next_is (codes "if") _ _ one.1) in
      (one.0, ap (λ x. x ∷ cs) two.0 ∙ ap (λ xs. d ∷ xs) (more_same cs ds h.1 k.1 two.1))

  pub goal_once : (g h : Goal) → Fine (sides g) → Fine (sides h) → AllByRecursion Fine g.conds → AllByRecursion Fine h.conds → text_of_goal sig g ≡ text_of_goal sig h → g ≡ h
  goal_once g h a b c d e =
      let P : List ℕ → Type 0 = λ text. AreTokens text (tokens_under (sides h) h.conds) in
      let here = prints_tokens _ _ (under_prints (sides g) g.conds a c) in
      let there = subst P (sym e) (prints_tokens _ _ (under_prints (sides h) h.conds b d)) in
      let same = under_same (sides g) (sides h) g.conds h.conds a b c d (tokens_once (text_of_goal sig g) _ _ there here) in
      ap (λ cs. goal cs g.left g.right) same.1 ∙ ap (λ (p : Pair). goal h.conds p.left p.right) same.0

  pub pair_once : (p q : Pair) → Fine p → Fine q → text_of_pair sig p ≡ text_of_pair sig q → p ≡ q
  pair_once p q a b e = ap sides (goal_once (goal [] p.left p.right) (goal [] q.left q.right) a b tt tt e)

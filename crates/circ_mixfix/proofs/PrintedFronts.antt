-- Where operators have words of their own, it is seen where a printed term ends, unless a parenthesis opens behind it.
use Rattle.std.proofs.Common.{◌≡◌, ◌++◌, ℕ, List, [], ◌∷◌, Bool, true, false, Some, None, codes, sym, ◌∙◌, ap, subst, refl, arith, append_assoc}
use Rattle.std.specs.List.{slice_get, list_any, Contains}
use Rattle.std.specs.Option.{unwrap_or}
use Rattle.std.proofs.lemmas.List.{append_cancel_left}
use Rattle.circ_term.specs.Tree.{Tree, Trees, Var, App}
use Rattle.circ_form.specs.declared.forms.Piece.{Piece}
use Rattle.circ_form.specs.declared.forms.Piece.TheVariants as piece
use Rattle.circ_form.specs.Form.{is_hole_piece, is_word}
use Rattle.circ_theory.specs.Signature.{Signature, Operator, IsWellSorted}
use Rattle.circ_mixfix.specs.Spells.{HasNoColon}
use Rattle.circ_mixfix.specs.Printing.{printed_name}
use Rattle.circ_mixfix.specs.OwnWords.{IsReadBack}
use Rattle.circ_mixfix.proofs.Names.{before_colon, no_colon}
use Rattle.circ_mixfix.proofs.SymbolWords.{form_word}
use Rattle.circ_mixfix.proofs.Levels.{is_open, is_comma, always, walk, step_close, step_always, walk_next, walk_on, deeper, same_front}
use Rattle.circ_mixfix.proofs.PrintedTokens.{fill, more_tokens, arguments_tokens, application_tokens, operator_tokens, tokens_of_term, tokens_of_terms}
use Rattle.circ_mixfix.proofs.SpelledLevels.{AllInner, contains_inner, listed, operator_inner}
use Rattle.circ_mixfix.proofs.ReadBack.{AllWalk, more_inside, fill_outside, plain_front, printed_colon, all_balanced, nothing_declared}

-- what stands in parentheses ends with them
parentheses_end : (is js xs ys : List (List ℕ)) (x y : List ℕ) → walk is_comma 0 is ≡ Some 0 → walk is_comma 0 js ≡ Some 0 → is_open x ≡ false → is_open y ≡ false
    → (is ++ codes ")" ∷ []) ++ x ∷ xs ≡ (js ++ codes ")" ∷ []) ++ y ∷ ys → is ++ codes ")" ∷ [] ≡ js ++ codes ")" ∷ []
parentheses_end is js xs ys x y a b m n e =
    same_front always 1 (is ++ codes ")" ∷ []) (js ++ codes ")" ∷ []) xs ys x y (closes is a) (closes js b) (step_always x m) (step_always y n) e
  where
    closes : (us : List (List ℕ)) → walk is_comma 0 us ≡ Some 0 → walk always 1 (us ++ codes ")" ∷ []) ≡ Some 0
    closes us h = walk_on always 1 1 us (codes ")" ∷ []) (deeper is_comma always 0 0 us h) ∙ walk_next always 1 0 (codes ")") [] (step_close always 0)

arguments_end : (ls ms : List (List (List ℕ))) (xs ys : List (List ℕ)) (x y : List ℕ) → AllWalk is_comma ls → AllWalk is_comma ms → is_open x ≡ false → is_open y ≡ false
    → arguments_tokens ls ++ x ∷ xs ≡ arguments_tokens ms ++ y ∷ ys → arguments_tokens ls ≡ arguments_tokens ms
arguments_end [] [] xs ys x y a b m n e = refl
arguments_end [] (v ∷ ms) xs ys x y a b m n e = let q : x ≡ codes "(" = cc in absurd (let z : true ≡ false = ap is_open (sym q) ∙ m in cc)
arguments_end (u ∷ ls) [] xs ys x y a b m n e = let q : y ≡ codes "(" = cc in absurd (let z : true ≡ false = ap is_open (sym q) ∙ n in cc)
arguments_end (u ∷ ls) (v ∷ ms) xs ys x y a b m n e =
    let t : (u ++ more_tokens ls) ++ x ∷ xs ≡ (v ++ more_tokens ms) ++ y ∷ ys = cc in
    ap (λ us. codes "(" ∷ us)
    (same_front always 1 (u ++ more_tokens ls) (v ++ more_tokens ms) xs ys x y (closes u ls a.0 a.1) (closes v ms b.0 b.1) (step_always x m) (step_always y n) t)
  where
    closes : (w : List (List ℕ)) (ws : List (List (List ℕ))) → walk is_comma 0 w ≡ Some 0 → AllWalk is_comma ws → walk always 1 (w ++ more_tokens ws) ≡ Some 0
    closes w ws h k = walk_on always 1 1 w (more_tokens ws) (deeper is_comma always 0 0 w h) ∙ more_inside always ws k

-- a list begins with a text without a colon
record Begins (us : List (List ℕ)) : Type 0 where
  first : List ℕ
  others : List (List ℕ)
  are : us ≡ first ∷ others
  plain : HasNoColon first

-- a list that begins with the words of a form begins with one
record FirstWord (ps : List Piece) (us : List (List ℕ)) : Type 0 where
  first : List ℕ
  others : List (List ℕ)
  are : us ≡ first ∷ others
  word : Contains ps (piece.Word first)

first_word : (ps : List Piece) (rest : List (List ℕ)) → list_any is_hole_piece ps ≡ false → list_any is_word ps ≡ true → FirstWord ps (fill ps [] ++ rest)
first_word [] rest h w = absurd (cc)
first_word (piece.Hole ∷ ps) rest h w = absurd (cc)
first_word (piece.Word v ∷ ps) rest h w = record { first = v; others = fill ps [] ++ rest; are = refl; word = (0, omega arith, refl) }

same_first : {X : Type 0} (u v : X) (us vs : List X) → u ∷ us ≡ v ∷ vs → u ≡ v
same_first u v us vs e = cc

module _ (sig : Signature) (ok : IsReadBack sig) where
  abbrev T : Tree → List (List ℕ)
  T t = tokens_of_term sig false t

  abbrev Ts : Trees → List (List (List ℕ))
  Ts ts = tokens_of_terms sig false ts

  there : (f : ℕ) (o : Operator) → slice_get sig.ops f ≡ Some o → Contains sig.ops o
  there f o l = listed sig false [] ok.operators (nothing_declared sig) f o l

  inner : (f : ℕ) (o : Operator) → slice_get sig.ops f ≡ Some o → AllInner o.form
  inner f o l = operator_inner sig false [] ok.operators (nothing_declared sig) f o l

  has_word : (f : ℕ) (o : Operator) → slice_get sig.ops f ≡ Some o → list_any is_word o.form ≡ true
  has_word f o l = form_word o.form (ok.operators o (there f o l)).is_form

  args_walk : (f k : ℕ) (ts : Trees) (w : IsWellSorted sig (App f k ts)) → AllWalk is_comma (Ts ts)
  args_walk f k ts w = all_balanced sig false [] ok.operators ok.printable ok.words ok.sorts ok.different (nothing_declared sig) ts w.0.args w.3

  tokens_are : (f k : ℕ) (ts : Trees) (w : IsWellSorted sig (App f k ts)) → T (App f k ts) ≡ application_tokens w.0 (Ts ts)
  tokens_are f k ts w = ap (λ x. operator_tokens x (Ts ts)) w.1

  holed : (f k : ℕ) (ts : Trees) (w : IsWellSorted sig (App f k ts)) → list_any is_hole_piece w.0.form ≡ true → T (App f k ts) ≡ codes "(" ∷ (fill w.0.form (Ts ts) ++ codes ")" ∷ [])
  holed f k ts w e = rw e at (tokens_are f k ts w)

  plain : (f k : ℕ) (ts : Trees) (w : IsWellSorted sig (App f k ts)) → list_any is_hole_piece w.0.form ≡ false → T (App f k ts) ≡ fill w.0.form [] ++ arguments_tokens (Ts ts)
  plain f k ts w e = rw e at (tokens_are f k ts w)

  begins : (f k : ℕ) (ts : Trees) → IsWellSorted sig (App f k ts) → Begins (T (App f k ts))
  begins f k ts w = go (list_any is_hole_piece w.0.form) refl
    where
      go : (b : Bool) → list_any is_hole_piece w.0.form ≡ b → Begins (T (App f k ts))
      go true e = record { first = codes "("; others = fill w.0.form (Ts ts) ++ codes ")" ∷ []; are = holed f k ts w e; plain = refl }
      go false e =
          let v = first_word w.0.form (arguments_tokens (Ts ts)) e (has_word f w.0 w.1) in
          record { first = v.first; others = v.others; are = plain f k ts w e ∙ v.are; plain = (contains_inner w.0.form v.first (inner f w.0 w.1) v.word).3 }

  -- a variable's token is no first token of an application
  variable_apart : (n s f k : ℕ) (ts : Trees) (us vs : List (List ℕ)) → IsWellSorted sig (App f k ts) → T (Var n s) ++ us ≡ T (App f k ts) ++ vs → ⊥
  variable_apart n s f k ts us vs w e =
      let b = begins f k ts w in
      let token = printed_name false n ++ codes ":" ++ unwrap_or (slice_get sig.sorts s) [] in
      let same : token ≡ b.first = same_first token b.first us (b.others ++ vs) (e ∙ ap (λ ws. ws ++ vs) b.are) in
      absurd (let z : Some (printed_name false n) ≡ None = sym (printed_colon sig false n s) ∙ ap before_colon same ∙ no_colon b.first b.plain in cc)

  both_plain : (f g k j : ℕ) (ts us : Trees) (xs ys : List (List ℕ)) (x y : List ℕ) (w : IsWellSorted sig (App f k ts)) (v : IsWellSorted sig (App g j us))
      → list_any is_hole_piece w.0.form ≡ false → list_any is_hole_piece v.0.form ≡ false → is_open x ≡ false → is_open y ≡ false
      → T (App f k ts) ++ x ∷ xs ≡ T (App g j us) ++ y ∷ ys → T (App f k ts) ≡ T (App g j us)
  both_plain f g k j ts us xs ys x y w v c d m n e =
      let a = first_word w.0.form (arguments_tokens (Ts ts)) c (has_word f w.0 w.1) in
      let b = first_word v.0.form (arguments_tokens (Ts us)) d (has_word g v.0 v.1) in
      let left = plain f k ts w c in
      let right = plain g j us v d in
      let first : a.first ≡ b.first =
      same_first a.first b.first (a.others ++ x ∷ xs) (b.others ++ y ∷ ys)
      (ap (λ ws. ws ++ x ∷ xs) (sym a.are ∙ sym left) ∙ e ∙ ap (λ ws. ws ++ y ∷ ys) (right ∙ b.are)) in
      let P : List ℕ → Type 0 = λ u. Contains v.0.form (piece.Word u) in
      let form : w.0.form ≡ v.0.form = ok.words.own w.0 v.0 a.first (there f w.0 w.1) (there g v.0 v.1) a.word (subst P (sym first) b.word) in
      let whole : fill v.0.form [] ++ (arguments_tokens (Ts ts) ++ x ∷ xs) ≡ fill v.0.form [] ++ (arguments_tokens (Ts us) ++ y ∷ ys) =
      sym (append_assoc (fill v.0.form []) (arguments_tokens (Ts ts)) (x ∷ xs)) ∙ ap (λ ps. (fill ps [] ++ arguments_tokens (Ts ts)) ++ x ∷ xs) (sym form) ∙ ap (λ ws. ws ++ x ∷ xs) (sym left)
      ∙ e ∙ ap (λ ws. ws ++ y ∷ ys) right ∙ append_assoc (fill v.0.form []) (arguments_tokens (Ts us)) (y ∷ ys) in
      let args = arguments_end (Ts ts) (Ts us) xs ys x y (args_walk f k ts w) (args_walk g j us v) m n
      (append_cancel_left (fill v.0.form []) (arguments_tokens (Ts ts) ++ x ∷ xs) (arguments_tokens (Ts us) ++ y ∷ ys) whole) in
      left ∙ ap (λ ps. fill ps [] ++ arguments_tokens (Ts ts)) form ∙ ap (λ ws. fill v.0.form [] ++ ws) args ∙ sym right

  both_holed : (f g k j : ℕ) (ts us : Trees) (xs ys : List (List ℕ)) (x y : List ℕ) (w : IsWellSorted sig (App f k ts)) (v : IsWellSorted sig (App g j us))
      → list_any is_hole_piece w.0.form ≡ true → list_any is_hole_piece v.0.form ≡ true → is_open x ≡ false → is_open y ≡ false
      → T (App f k ts) ++ x ∷ xs ≡ T (App g j us) ++ y ∷ ys → T (App f k ts) ≡ T (App g j us)
  both_holed f g k j ts us xs ys x y w v c d m n e =
      let is = fill w.0.form (Ts ts) in
      let js = fill v.0.form (Ts us) in
      let left = holed f k ts w c in
      let right = holed g j us v d in
      let whole : codes "(" ∷ ((is ++ codes ")" ∷ []) ++ x ∷ xs) ≡ codes "(" ∷ ((js ++ codes ")" ∷ []) ++ y ∷ ys) =
      ap (λ ws. ws ++ x ∷ xs) (sym left) ∙ e ∙ ap (λ ws. ws ++ y ∷ ys) right in
      let same : (is ++ codes ")" ∷ []) ++ x ∷ xs ≡ (js ++ codes ")" ∷ []) ++ y ∷ ys = append_cancel_left (codes "(" ∷ []) _ _ whole in
      let ends = parentheses_end is js xs ys x y (fill_outside w.0.form (Ts ts) (inner f w.0 w.1) (args_walk f k ts w)) (fill_outside v.0.form (Ts us) (inner g v.0 v.1) (args_walk g j us v)) m n same in
      left ∙ ap (λ ws. codes "(" ∷ ws) ends ∙ sym right

  -- one begins with a parenthesis, the other with a word
  apart_by_first : (f g k j : ℕ) (ts us : Trees) (vs ws : List (List ℕ)) (w : IsWellSorted sig (App f k ts)) (v : IsWellSorted sig (App g j us))
      → list_any is_hole_piece w.0.form ≡ true → list_any is_hole_piece v.0.form ≡ false → T (App f k ts) ++ vs ≡ T (App g j us) ++ ws → ⊥
  apart_by_first f g k j ts us vs ws w v c d e =
      let whole : fill v.0.form [] ++ (arguments_tokens (Ts us) ++ ws) ≡ codes "(" ∷ ((fill w.0.form (Ts ts) ++ codes ")" ∷ []) ++ vs) =
      sym (append_assoc (fill v.0.form []) (arguments_tokens (Ts us)) ws) ∙ ap (λ xs. xs ++ ws) (sym (plain g j us v d)) ∙ sym e ∙ ap (λ xs. xs ++ vs) (holed f k ts w c) in
      plain_front v.0.form (arguments_tokens (Ts us) ++ ws) _ (inner g v.0 v.1) d (has_word g v.0 v.1) whole

  -- two printed terms at the beginning of one list
  pub same_end : (t u : Tree) (xs ys : List (List ℕ)) (x y : List ℕ) → IsWellSorted sig t → IsWellSorted sig u → is_open x ≡ false → is_open y ≡ false
      → T t ++ x ∷ xs ≡ T u ++ y ∷ ys → T t ≡ T u
  same_end (Var n s) (Var m r) xs ys x y w v c d e = ap (λ v. v ∷ []) (same_first _ _ (x ∷ xs) (y ∷ ys) e)
  same_end (Var n s) (App g j us) xs ys x y w v c d e = absurd (variable_apart n s g j us (x ∷ xs) (y ∷ ys) v e)
  same_end (App f k ts) (Var m r) xs ys x y w v c d e = absurd (variable_apart m r f k ts (y ∷ ys) (x ∷ xs) w (sym e))
  same_end (App f k ts) (App g j us) xs ys x y w v c d e = go (list_any is_hole_piece w.0.form) (list_any is_hole_piece v.0.form) refl refl
    where
      go : (a b : Bool) → list_any is_hole_piece w.0.form ≡ a → list_any is_hole_piece v.0.form ≡ b → T (App f k ts) ≡ T (App g j us)
      go true true h i = both_holed f g k j ts us xs ys x y w v h i c d e
      go true false h i = absurd (apart_by_first f g k j ts us (x ∷ xs) (y ∷ ys) w v h i e)
      go false true h i = absurd (apart_by_first g f j k us ts (y ∷ ys) (x ∷ xs) v w i h (sym e))
      go false false h i = both_plain f g k j ts us xs ys x y w v h i c d e

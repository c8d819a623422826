-- Text that is written line by line.
use Rattle.std.specs.Prelude.{◌≡◌, ℕ, ◌+◌, ◌<◌, ◌≤◌, zero, suc, List, [], ◌∷◌, ◌++◌, length, map, codes, refl}
use Rattle.std.specs.List.{AllByRecursion}
use Rattle.std.proofs.Common.{ap, sym, subst, ◌∙◌, arith, append_assoc, drop, get_or}
use Rattle.std.proofs.lemmas.List.{drop_all}
use Rattle.std.proofs.lemmas.Option.{slice_get-get_or, get_or_from_slice_get}
use Rattle.circ_term.proofs.Within.{drop_read}
use Rattle.circ_proof.specs.Plain.{LinkOf, ChainOf, ChainsOf, Equation_link, Hypothesis_link, Assumption_link, Content_link, no_chain, more_chains, row_of}
use Rattle.circ_proof.specs.Plain.{plain_why, plain_whys}
use Rattle.circ_proof.specs.declared.links.Why.{Why}
use Rattle.circ_proof.specs.Rules.{ProofStep, Simplify, Reduce, Derive, Cases, Done}
use Rattle.circ_proof.specs.Proof.{IsWhyFor, AreWhysFor, IsEnded}
use Rattle.circ_line.specs.Line.{Line, simplify_line, reduce_line, derive_line, cases_line, done_line, same_line, if_line, left_line, right_line}
use Rattle.circ_line.specs.Text.{joined, link_words, line_text}
use Rattle.circ_grammar.specs.Grammar.{bare, lines_of, left_lines, right_lines, left_row, right_row, conds_lines, chain_lines, why_lines, step_lines}
use Rattle.circ_grammar.specs.FirstBad.{file_text}
use Rattle.circ_proof_text.specs.ProofText.{without_done}
use Rattle.circ_file.specs.Writing.{Writes, lines_of_step}

-- a line and its line feed
pub line_written : (old mid new : List ℕ) (l : Line) → mid ≡ old ++ line_text l → new ≡ mid ++ 10 ∷ [] → Writes old new (λ later. l ∷ later)
line_written old mid new l e f later =
    ap (λ x. x ++ file_text later) (f ∙ ap (λ x. x ++ 10 ∷ []) e)
    ∙ append_assoc (old ++ line_text l) (10 ∷ []) (file_text later)
    ∙ append_assoc old (line_text l) (10 ∷ file_text later)

-- one after the other
pub then_writes : (old mid new : List ℕ) (f g : List Line → List Line) → Writes old mid f → Writes mid new g → Writes old new (λ later. f (g later))
then_writes old mid new f g a b later = b later ∙ a (g later)

-- A list is written up to a place: what is left to be written of it makes the text whole.
abbrev pub IsLeft : {A : Type 0} → (List A → List Line → List Line) → (old new : List ℕ) → (xs : List A) → ℕ → Type 0
IsLeft f old new xs i = (later : List Line) → new ++ file_text (f (drop i xs) later) ≡ old ++ file_text (f xs later)

module _ {A : Type 0} (f : List A → List Line → List Line) (g : A → List Line → List Line) (old : List ℕ) (xs : List A) (i : ℕ) where
  pub item_written : ((x : A) (ys : List A) (later : List Line) → f (x ∷ ys) later ≡ g x (f ys later)) → (mid new : List ℕ) (x : A)
      → i < length xs → x ≡ get_or xs i x → IsLeft f old mid xs i → Writes mid new (g x) → IsLeft f old new xs (i + 1)
  item_written cons mid new x h e so_far w later =
      w (f (drop (i + 1) xs) later)
      ∙ ap (λ ls. mid ++ file_text ls) (sym (cons x (drop (i + 1) xs) later))
      ∙ ap (λ ys. mid ++ file_text (f ys later)) (sym (drop_read xs i x h e))
      ∙ so_far later

  pub all_written : ((later : List Line) → f [] later ≡ later) → (new : List ℕ) → length xs ≤ i → IsLeft f old new xs i → Writes old new (f xs)
  all_written none new h so_far later =
      ap (λ ls. new ++ file_text ls) (sym (none later))
      ∙ ap (λ ys. new ++ file_text (f ys later)) (sym (drop_all i xs h))
      ∙ so_far later

-- an element of a list, read with any other value for what lies past its end
pub item_at : {A : Type 0} (xs : List A) (i : ℕ) (d : A) → i < length xs → get_or xs i d ≡ get_or xs i (get_or xs i d)
item_at xs i d h = sym (get_or_from_slice_get xs i (get_or xs i d) (get_or xs i d) (slice_get-get_or xs i d h))

-- the steps of a block, of which the last and no other is Done
pub ended_lines : (ss : List (ProofStep ℕ)) → IsEnded ss → (k : List Line) → lines_of lines_of_step ss k ≡ lines_of step_lines (without_done ss) (done_line ∷ k)
ended_lines [] e k = absurd e
ended_lines (Simplify c ∷ []) e k = absurd (cc)
ended_lines (Reduce w ∷ []) e k = absurd (cc)
ended_lines (Derive ∷ []) e k = absurd (cc)
ended_lines (Cases u ∷ []) e k = absurd (cc)
ended_lines (Done ∷ []) e k = refl
ended_lines (Simplify c ∷ t ∷ ss) e k = ap (λ ls. simplify_line ∷ chain_lines c ls) (ended_lines (t ∷ ss) e.1 k)
ended_lines (Reduce w ∷ t ∷ ss) e k = ap (λ ls. reduce_line ∷ why_lines w ls) (ended_lines (t ∷ ss) e.1 k)
ended_lines (Derive ∷ t ∷ ss) e k = ap (λ ls. derive_line ∷ ls) (ended_lines (t ∷ ss) e.1 k)
ended_lines (Cases u ∷ t ∷ ss) e k = ap (λ ls. cases_line u ∷ ls) (ended_lines (t ∷ ss) e.1 k)
ended_lines (Done ∷ t ∷ ss) e k = absurd (e.0 refl)

-- the whys of a split
pub why_for : (count splits : ℕ) (ws : List (Why ℕ)) (i : ℕ) (w : Why ℕ) → AreWhysFor count splits (plain_whys ws) → i < length ws → w ≡ get_or ws i w
    → IsWhyFor count splits (plain_why w)
why_for count splits [] i w a h e = absurd (omega arith)
why_for count splits (x ∷ ws) zero w a h e = let P : Why ℕ → Type 0 = λ y. IsWhyFor count splits (plain_why y) in subst P (sym e) a.0
why_for count splits (x ∷ ws) (suc i) w a h e = why_for count splits ws i w a.1 (omega arith) e

-- an element of a list has what all of them have
pub mapped_at : {A B : Type 0} (P : B → Type 0) (f : A → B) (xs : List A) (i : ℕ) (x : A) → AllByRecursion P (map f xs) → i < length xs → x ≡ get_or xs i x
    → P (f x)
mapped_at P f [] i x a h e = absurd (omega arith)
mapped_at {A = A} P f (y ∷ xs) zero x a h e = let Q : A → Type 0 = λ z. P (f z) in subst Q (sym e) a.0
mapped_at P f (y ∷ xs) (suc i) x a h e = mapped_at P f xs i x a.1 (omega arith) e

-- a link's line has the same text with the chains of its conditions as without
pub bare_text : (side : LinkOf ℕ → Line) (h : (l m : LinkOf ℕ) → link_words l ≡ link_words m → line_text (side l) ≡ line_text (side m)) (l : LinkOf ℕ)
    → line_text (side l) ≡ line_text (side (bare l))
bare_text side h (Equation_link n w p ts cs) = h (Equation_link n w p ts cs) (Equation_link n w p ts no_chain) refl
bare_text side h (Hypothesis_link n w p ts cs) = h (Hypothesis_link n w p ts cs) (Hypothesis_link n w p ts no_chain) refl
bare_text side h (Assumption_link n w p) = refl
bare_text side h (Content_link f p t) = refl

pub left_written : (old new : List ℕ) (l : LinkOf ℕ) → Writes old new (λ later. left_line l ∷ later) → Writes old new (λ later. left_line (bare l) ∷ later)
left_written old new l w later =
    w later ∙ ap (λ t. old ++ (t ++ 10 ∷ file_text later)) (bare_text left_line (λ l m e. ap (λ ws. joined 32 (codes "left" ∷ ws)) e) l)

pub right_written : (old new : List ℕ) (l : LinkOf ℕ) → Writes old new (λ later. right_line l ∷ later) → Writes old new (λ later. right_line (bare l) ∷ later)
right_written old new l w later =
    w later ∙ ap (λ t. old ++ (t ++ 10 ∷ file_text later)) (bare_text right_line (λ l m e. ap (λ ws. joined 32 (codes "right" ∷ ws)) e) l)

-- the chains of conditions, one after the other
left_row_is : (ls : List (LinkOf ℕ)) (k : List Line) → left_row (row_of ls) k ≡ lines_of left_lines ls k
left_row_is [] k = refl
left_row_is (l ∷ ls) k = ap (left_lines l) (left_row_is ls k)

right_row_is : (ls : List (LinkOf ℕ)) (k : List Line) → right_row (row_of ls) k ≡ lines_of right_lines ls k
right_row_is [] k = refl
right_row_is (l ∷ ls) k = ap (right_lines l) (right_row_is ls k)

pub conds_one : (c : ChainOf ℕ) (cs : ChainsOf ℕ) (k : List Line)
    → conds_lines (more_chains (row_of c.left) (row_of c.right) cs) k ≡ if_line ∷ chain_lines c (same_line ∷ conds_lines cs k)
conds_one c cs k = ap (λ r. if_line ∷ r) (left_row_is c.left (right_row (row_of c.right) (same_line ∷ conds_lines cs k))
    ∙ ap (lines_of left_lines c.left) (right_row_is c.right (same_line ∷ conds_lines cs k)))

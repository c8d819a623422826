-- What is spelled is read.
use Rattle.std.specs.Prelude.{◌≡◌, ℕ, zero, suc, List, [], ◌∷◌, ◌++◌, Option, Some, None, replicate, refl}
use Rattle.std.specs.Option.{option_and_then}
use Rattle.std.proofs.Common.{ap, sym, subst, ◌∙◌, append_assoc, append-nil}
use Rattle.circ_regex.specs.Matches.{Expression, either_of, in_turn, any_number}
use Rattle.circ_regex.specs.Grammar.{Rank, sum_rank, product_rank, factor_rank, atom_rank, starred, SpellsExpression, one_product}
use Rattle.circ_regex.specs.Grammar.{more_products, one_factor, more_factors, with_stars, by_a, by_b, by_zero, by_one, grouped}
use Rattle.circ_regex.specs.Frames.{Frame, Frames, frame_with, frames_with, nested, on_byte, on_bytes, whole_sum, expression_read}

pub bytes-append : (xs ys : List ℕ) (st st' : Frames) → on_bytes xs st ≡ Some st' → on_bytes (xs ++ ys) st ≡ on_bytes ys st'
bytes-append xs ys st st' e = before xs ys st ∙ ap (λ o. option_and_then (on_bytes ys) o) e
  where
    before : (xs ys : List ℕ) (st : Frames) → on_bytes (xs ++ ys) st ≡ option_and_then (on_bytes ys) (on_bytes xs st)
    before [] ys st = refl
    before (b ∷ xs) ys st = on (on_byte b st) (λ s. before xs ys s)
      where
        on : (o : Option Frames) → ((s : Frames) → on_bytes (xs ++ ys) s ≡ option_and_then (on_bytes ys) (on_bytes xs s)) → option_and_then (on_bytes (xs ++ ys)) o ≡ option_and_then (on_bytes ys) (option_and_then (on_bytes xs) o)
        on None f = refl
        on (Some s) f = f s

pub nested-last : (op : Expression → Expression → Expression) (x e : Expression) (fs : List Expression) → nested op x (fs ++ e ∷ []) ≡ op e (nested op x fs)
nested-last op x e [] = refl
nested-last op x e (f ∷ fs) = nested-last op (op f x) e fs

-- what reading a spelled text does
pub record Product (s : List ℕ) (e : Expression) (ps fs : List Expression) (outer : List Frame) : Type 0 where
  pub last : Expression
  pub before : List Expression
  pub is : nested in_turn last before ≡ e
  pub runs : on_bytes s (frames_with (frame_with ps fs) outer) ≡ Some (frames_with (frame_with ps (last ∷ before ++ fs)) outer)

pub record Sum (s : List ℕ) (e : Expression) (ps : List Expression) (outer : List Frame) : Type 0 where
  pub last : Expression
  pub before : List Expression
  pub sums : List Expression
  pub is : nested either_of (nested in_turn last before) sums ≡ e
  pub runs : on_bytes s (frames_with (frame_with ps []) outer) ≡ Some (frames_with (frame_with (sums ++ ps) (last ∷ before)) outer)

abbrev pub Reads : Rank → List ℕ → Expression → Type 0
Reads sum_rank s e = (ps : List Expression) (outer : List Frame) → Sum s e ps outer
Reads product_rank s e = (ps fs : List Expression) (outer : List Frame) → Product s e ps fs outer
Reads factor_rank s e = (ps fs : List Expression) (outer : List Frame) → on_bytes s (frames_with (frame_with ps fs) outer) ≡ Some (frames_with (frame_with ps (e ∷ fs)) outer)
Reads atom_rank s e = (ps fs : List Expression) (outer : List Frame) → on_bytes s (frames_with (frame_with ps fs) outer) ≡ Some (frames_with (frame_with ps (e ∷ fs)) outer)

pub star_bytes : (n : ℕ) (e : Expression) (ps fs : List Expression) (outer : List Frame) → on_bytes (replicate n 42) (frames_with (frame_with ps (e ∷ fs)) outer) ≡ Some (frames_with (frame_with ps (starred n e ∷ fs)) outer)
star_bytes zero e ps fs outer = refl
star_bytes (suc n) e ps fs outer = star_bytes n (any_number e) ps fs outer

pub one_more_product : (s t : List ℕ) (e f : Expression) (ps : List Expression) (outer : List Frame) → Product s e ps [] outer → Reads sum_rank t f → Sum (s ++ 43 ∷ t) (either_of e f) ps outer
one_more_product s t e f ps outer p later =
    let q = later (e ∷ ps) outer in
    let P : Expression → Type 0 = λ x. on_bytes t (frames_with (frame_with (x ∷ ps) []) outer) ≡ Some (frames_with (frame_with (q.sums ++ e ∷ ps) (q.last ∷ q.before)) outer) in
    let plus : nested in_turn p.last (p.before ++ []) ≡ e = ap (nested in_turn p.last) (append-nil p.before) ∙ p.is in
    record {
      last = q.last;
      before = q.before;
      sums = q.sums ++ e ∷ [];
      is = nested-last either_of (nested in_turn q.last q.before) e q.sums ∙ ap (either_of e) q.is;
      runs = bytes-append s (43 ∷ t) (frames_with (frame_with ps []) outer) (frames_with (frame_with ps (p.last ∷ p.before ++ [])) outer) p.runs
          ∙ subst P (sym plus) q.runs
          ∙ ap (λ zs. Some (frames_with (frame_with zs (q.last ∷ q.before)) outer)) (sym (append_assoc q.sums (e ∷ []) ps));
    }

pub spelled_reads : {l : Rank} {s : List ℕ} {e : Expression} → SpellsExpression l s e → Reads l s e
spelled_reads (one_product {s = s} {e = e} d) = λ ps outer.
    let p = spelled_reads d ps [] outer in
    record { last = p.last; before = p.before; sums = []; is = p.is; runs = p.runs ∙ ap (λ zs. Some (frames_with (frame_with ps (p.last ∷ zs)) outer)) (append-nil p.before) }
spelled_reads (more_products {s = s} {t = t} {e = e} {f = f} d g) = λ ps outer. one_more_product s t e f ps outer (spelled_reads d ps [] outer) (spelled_reads g)
spelled_reads (one_factor {e = e} d) = λ ps fs outer. record { last = e; before = []; is = refl; runs = spelled_reads d ps fs outer }
spelled_reads (more_factors {s = s} {t = t} {e = e} {f = f} d g) = λ ps fs outer.
    let q = spelled_reads g ps (e ∷ fs) outer in
    record {
      last = q.last;
      before = q.before ++ e ∷ [];
      is = nested-last in_turn q.last e q.before ∙ ap (in_turn e) q.is;
      runs = bytes-append s t (frames_with (frame_with ps fs) outer) (frames_with (frame_with ps (e ∷ fs)) outer) (spelled_reads d ps fs outer) ∙ q.runs
          ∙ ap (λ zs. Some (frames_with (frame_with ps (q.last ∷ zs)) outer)) (sym (append_assoc q.before (e ∷ []) fs));
    }
spelled_reads (with_stars {s = s} {e = e} n d) = λ ps fs outer.
    bytes-append s (replicate n 42) (frames_with (frame_with ps fs) outer) (frames_with (frame_with ps (e ∷ fs)) outer) (spelled_reads d ps fs outer) ∙ star_bytes n e ps fs outer
spelled_reads by_a = λ ps fs outer. refl
spelled_reads by_b = λ ps fs outer. refl
spelled_reads by_zero = λ ps fs outer. refl
spelled_reads by_one = λ ps fs outer. refl
spelled_reads (grouped {s = s} {e = e} d) = λ ps fs outer.
    let q = spelled_reads d [] (frame_with ps fs ∷ outer) in
    let whole_sum : nested either_of (nested in_turn q.last q.before) (q.sums ++ []) ≡ e = ap (nested either_of (nested in_turn q.last q.before)) (append-nil q.sums) ∙ q.is in
    bytes-append s (41 ∷ []) (frames_with (frame_with [] []) (frame_with ps fs ∷ outer)) (frames_with (frame_with (q.sums ++ []) (q.last ∷ q.before)) (frame_with ps fs ∷ outer)) q.runs
    ∙ ap (λ x. Some (frames_with (frame_with ps (x ∷ fs)) outer)) whole_sum

-- what is spelled is expression_read
pub complete : (s : List ℕ) (e : Expression) → SpellsExpression sum_rank s e → expression_read s ≡ Some e
complete s e d =
    let q = spelled_reads d [] [] in
    ap (λ o. option_and_then (λ st. whole_sum st.outer st.now) o) q.runs ∙ ap Some (ap (nested either_of (nested in_turn q.last q.before)) (append-nil q.sums) ∙ q.is)

-- One row more.
use Rattle.std.specs.Prelude.{◌≡◌, ℕ, ◌+◌, ◌-◌, ◌<◌, zero, suc, List, [], ◌++◌, Option, Some, None, Result, Ok, Err, refl}
use Rattle.std.proofs.Common.{sym, ◌∙◌, ap, subst, arith, append_assoc, append-nil}
use Rattle.circ_statement.specs.Words.{Word}
use Rattle.circ_auto.specs.declared.fault.AutoCause.TheVariants.{Shape}
use Rattle.circ_auto.specs.Parts.{Part, or_shape, followed, row_in, rows_part}

-- targets, and those that come of the rest
abbrev pub with_targets : List ℕ → Part (List ℕ × List Word) → Part (List ℕ × List Word)
with_targets ts (Ok r) = Ok (ts ++ r.0, r.1)
with_targets ts (Err e) = Err e

rest_of : (n s : ℕ) → s < n → n - s ≡ suc (n - (s + 1))
rest_of n s l = omega (arith, l)

joined : (ts us : List ℕ) (p : Part (List ℕ × List Word)) → with_targets ts (followed p (λ t. Ok (us ++ t.0, t.1))) ≡ with_targets (ts ++ us) p
joined ts us (Ok r) = ap (λ xs. Ok (xs, r.1)) (sym (append_assoc ts us r.0))
joined ts us (Err e) = refl

pub row_taken : (k n s : ℕ) (ts us new : List ℕ) (ws r : List Word) → s < n → row_in k n s ws ≡ Some (us, r) → new ≡ ts ++ us
    → with_targets new (rows_part k n (n - (s + 1)) (s + 1) r) ≡ with_targets ts (rows_part k n (n - s) s ws)
row_taken k n s ts us new ws r l e g =
    ap (λ xs. with_targets xs (rows_part k n (n - (s + 1)) (s + 1) r)) g
    ∙ sym (ap (λ m. with_targets ts (rows_part k n m s ws)) (rest_of n s l)
    ∙ ap (λ o. with_targets ts (followed (or_shape (6 + s) o) (λ p. followed (rows_part k n (n - (s + 1)) (s + 1) p.1) (λ t. Ok (p.0 ++ t.0, t.1))))) e
    ∙ joined ts us (rows_part k n (n - (s + 1)) (s + 1) r))

pub row_missing : (k n s : ℕ) (ts : List ℕ) (ws : List Word) → s < n → row_in k n s ws ≡ None
    → with_targets ts (rows_part k n (n - s) s ws) ≡ Err (6 + s, Shape)
row_missing k n s ts ws l e =
    ap (λ m. with_targets ts (rows_part k n m s ws)) (rest_of n s l)
    ∙ ap (λ o. with_targets ts (followed (or_shape (6 + s) o) (λ p. followed (rows_part k n (n - (s + 1)) (s + 1) p.1) (λ t. Ok (p.0 ++ t.0, t.1))))) e

pub rows_done : (k n s : ℕ) (ts : List ℕ) (ws : List Word) → n ≡ s → with_targets ts (rows_part k n (n - s) s ws) ≡ Ok (ts, ws)
rows_done k n s ts ws e = ap (λ m. with_targets ts (rows_part k n m s ws)) (none n s e) ∙ ap (λ xs. Ok (xs, ws)) (append-nil ts)
  where
    none : (n s : ℕ) → n ≡ s → n - s ≡ 0
    none n s e = omega (arith, e)

pub rows_begin : (p : Part (List ℕ × List Word)) → with_targets [] p ≡ p
rows_begin (Ok r) = refl
rows_begin (Err e) = refl

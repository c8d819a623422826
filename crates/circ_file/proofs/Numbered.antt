-- The first lines of a table that have its terms.
use Rattle.std.specs.Prelude.{◌≡◌, ℕ, ◌+◌, ◌<◌, ◌≤◌, Bool, true, false, ◌||◌, if◌then◌else◌, List, [], ◌∷◌, ◌++◌, length, map, Some, refl}
use Rattle.std.specs.List.{slice_get, AllByRecursion}
use Rattle.std.proofs.Common.{ap, sym, subst, ◌∙◌, arith, length-append, append_assoc, get_or, take, drop}
use Rattle.std.proofs.lemmas.List.{take_more}
use Rattle.std.proofs.lemmas.Option.{slice_get_within, slice_get_read}
use Rattle.std.proofs.Math.Seq.{get_or-append_seam}
use Rattle.circ_term.specs.Tree.{Tree, Var, App, list_of, trees_of, args_of}
use Rattle.circ_term.proofs.Trees.{list_of-trees_of}
use Rattle.circ_term.specs.Order.{is_same}
use Rattle.circ_term.proofs.Order.{same_here}
use Rattle.circ_term.proofs.Within.{drop_read}
use Rattle.circ_theory.proofs.Lists.{all_by, slice_get-front}
use Rattle.circ_proof.specs.Table.{has, number_in, entered}
use Rattle.circ_proof.proofs.Tables.{number_stays, number_last}
use Rattle.circ_proof.specs.Proof.{IsEntry}
use Rattle.circ_line.specs.Line.{Application_line}
use Rattle.circ_proof_text.specs.TableText.{entry_of}
use Rattle.circ_file.specs.Numbering.{AreNumbered}

-- which terms there are with one more

has_more : (table : List Tree) (t u : Tree) → has (table ++ t ∷ []) u ≡ (has table u || is_same u t)
has_more [] t u = go (is_same u t)
  where
    go : (b : Bool) → (b || false) ≡ b
    go true = refl
    go false = refl
has_more (x ∷ table) t u = go (is_same u x) (has_more table t u)
  where
    go : (b : Bool) → has (table ++ t ∷ []) u ≡ (has table u || is_same u t) → (b || has (table ++ t ∷ []) u) ≡ ((b || has table u) || is_same u t)
    go true e = refl
    go false e = e

has_old : (table : List Tree) (t u : Tree) → has table u ≡ true → has (table ++ t ∷ []) u ≡ true
has_old table t u h = has_more table t u ∙ ap (λ b. b || is_same u t) h

-- a term that is there with one more is it, or was there
or_last : {P : Type 0} (table : List Tree) (t u : Tree) → has (table ++ t ∷ []) u ≡ true → (has table u ≡ true → P) → (has table u ≡ false → u ≡ t → P) → P
or_last {P = P} table t u h old new = go (has table u) refl (sym (has_more table t u) ∙ h)
  where
    go : (b : Bool) → has table u ≡ b → (b || is_same u t) ≡ true → P
    go true e s = old e
    go false e s = new e (same_here u t s)

module _ {table terms : List Tree} {firsts : List ℕ} (is : AreNumbered table terms firsts) where
  pub entry_args : (t : Tree) → IsEntry table t → AllByRecursion (λ a. has terms a ≡ true) (args_of t)
  entry_args (Var n s) e = tt
  entry_args (App f s ts) e = all_by (λ a. has table a ≡ true) (λ a. has terms a ≡ true) (list_of ts) (λ a h. is.same a ∙ h) e

  -- a term gets a line

  entered_by : (t : Tree) (b : Bool) → has terms t ≡ b → entered terms t ≡ (if b then terms else terms ++ t ∷ [])
  entered_by t b h = ap (λ c. if c then terms else terms ++ t ∷ []) h

  pub entry_grown : (t : Tree) → length (entered terms t) ≤ length table + 1
  entry_grown t = go (has terms t) refl
    where
      go : (b : Bool) → has terms t ≡ b → length (entered terms t) ≤ length table + 1
      go true h = let a = ap length (entered_by t true h) in omega (arith, a, is.few)
      go false h = let a = ap length (entered_by t false h) in omega (arith, a, length-append terms (t ∷ []), is.few)

  -- it is among the terms
  pub old_entry : (t : Tree) → has table t ≡ true → AreNumbered (table ++ t ∷ []) terms firsts
  old_entry t h = record {
    same = λ u. is.same u ∙ same_as u;
    few = omega (arith, length-append table (t ∷ []), is.few);
    count = is.count;
    firsts_are = λ u g. let there = sym (same_as u) in is.firsts_are u (same_as u ∙ g) ∙ ap Some (sym (number_stays table (t ∷ []) u (same_as u ∙ g)));
  }
    where
      same_as : (u : Tree) → has table u ≡ has (table ++ t ∷ []) u
      same_as u = go (is_same u t) refl (has table u) refl
        where
          go : (b : Bool) → is_same u t ≡ b → (c : Bool) → has table u ≡ c → has table u ≡ has (table ++ t ∷ []) u
          go true e c d =
              let there : has table u ≡ true = let P : Tree → Type 0 = λ x. has table x ≡ true in subst P (sym (same_here u t e)) h in
              there ∙ sym (has_old table t u there)
          go false e true d = d ∙ sym (has_old table t u d)
          go false e false d = d ∙ sym (has_more table t u ∙ ap (λ x. x || is_same u t) d ∙ e)

  -- it is a new one
  pub new_entry : (t : Tree) → has table t ≡ false → AreNumbered (table ++ t ∷ []) (terms ++ t ∷ []) (firsts ++ length table ∷ [])
  new_entry t h = record {
    same = λ u. has_more terms t u ∙ ap (λ b. b || is_same u t) (is.same u) ∙ sym (has_more table t u);
    few = omega (arith, length-append table (t ∷ []), length-append terms (t ∷ []), is.few);
    count = omega (arith, length-append firsts (length table ∷ []), length-append terms (t ∷ []), is.count);
    firsts_are = firsts_are;
  }
    where
      last : slice_get (firsts ++ length table ∷ []) (length firsts) ≡ Some (length table)
      last = slice_get_read (firsts ++ length table ∷ []) (length (firsts ++ length table ∷ [])) (length firsts) (length table) refl
          (omega (arith, length-append firsts (length table ∷ []))) (sym (get_or-append_seam firsts (length table) [] (length table)))

      firsts_are : (u : Tree) → has (table ++ t ∷ []) u ≡ true → slice_get (firsts ++ length table ∷ []) (number_in (terms ++ t ∷ []) u) ≡ Some (number_in (table ++ t ∷ []) u)
      firsts_are u g = or_last table t u g
          (λ old.
          ap (slice_get (firsts ++ length table ∷ [])) (number_stays terms (t ∷ []) u (is.same u ∙ old))
          ∙ slice_get-front firsts (length table ∷ []) (number_in terms u) (number_in table u) (is.firsts_are u old)
          ∙ ap Some (sym (number_stays table (t ∷ []) u old)))
          (λ _ same.
          let P : Tree → Type 0 = λ x. slice_get (firsts ++ length table ∷ []) (number_in (terms ++ t ∷ []) x) ≡ Some (number_in (table ++ t ∷ []) x) in
          subst P (sym same) (
          ap (slice_get (firsts ++ length table ∷ [])) (number_last terms t (is.same t ∙ h) ∙ sym is.count)
          ∙ last ∙ ap Some (sym (number_last table t h))))

  -- it is told by its number which of the two it is

  pub entered_old : (t : Tree) → (new : List Tree) (n : ℕ) → new ≡ entered terms t → n ≡ number_in new t → n < length firsts
      → AreNumbered (table ++ t ∷ []) new firsts
  entered_old t new n grown is_number below = go (has terms t) refl
    where
      go : (b : Bool) → has terms t ≡ b → AreNumbered (table ++ t ∷ []) new firsts
      go true h =
          let P : List Tree → Type 0 = λ x. AreNumbered (table ++ t ∷ []) x firsts in
          subst P (sym (grown ∙ entered_by t true h)) (old_entry t (sym (is.same t) ∙ h))
      go false h =
          let l = is_number ∙ ap (λ x. number_in x t) (grown ∙ entered_by t false h) ∙ number_last terms t h in
          absurd (omega (arith, l, is.count))

  pub entered_new : (t : Tree) → (new : List Tree) (n : ℕ) → new ≡ entered terms t → n ≡ number_in new t → length firsts ≤ n
      → AreNumbered (table ++ t ∷ []) new (firsts ++ length table ∷ [])
  entered_new t new n grown is_number above = go (has terms t) refl
    where
      go : (b : Bool) → has terms t ≡ b → AreNumbered (table ++ t ∷ []) new (firsts ++ length table ∷ [])
      go true h =
          let f = is.firsts_are t (sym (is.same t) ∙ h) in
          let l = is_number ∙ ap (λ x. number_in x t) (grown ∙ entered_by t true h) in
          absurd (omega (arith, l, slice_get_within firsts (number_in terms t) (number_in table t) f))
      go false h =
          let P : List Tree → Type 0 = λ x. AreNumbered (table ++ t ∷ []) x (firsts ++ length table ∷ []) in
          subst P (sym (grown ∙ entered_by t false h)) (new_entry t (sym (is.same t) ∙ h))

-- the numbers of a list, one after another
pub more_numbers : (f : Tree → ℕ) (ts : List Tree) (i : ℕ) (t : Tree) (ns new : List ℕ) (n : ℕ) → i < length ts → t ≡ get_or ts i t → new ≡ ns ++ n ∷ []
    → n ≡ f t → ns ++ map f (drop i ts) ≡ map f ts → new ++ map f (drop (i + 1) ts) ≡ map f ts
more_numbers f ts i t ns new n h e p m so_far =
    ap (λ x. x ++ map f (drop (i + 1) ts)) p
    ∙ append_assoc ns (n ∷ []) (map f (drop (i + 1) ts))
    ∙ ap (λ x. ns ++ x ∷ map f (drop (i + 1) ts)) m
    ∙ ap (λ us. ns ++ map f us) (sym (drop_read ts i t h e))
    ∙ so_far

-- the line of an application whose arguments have these numbers
pub entry_line : (table : List Tree) (f s : ℕ) (args : List Tree) (t : Tree) (ns : List ℕ) → App f s (trees_of args) ≡ t → ns ≡ map (number_in table) args
    → Application_line f ns ≡ entry_of table t
entry_line table f s args t ns is e =
    ap (Application_line f) (e ∙ ap (map (number_in table)) (sym (list_of-trees_of args))) ∙ ap (entry_of table) is

pub entry_args_have : (table : List Tree) (f s : ℕ) (args : List Tree) (t : Tree) → App f s (trees_of args) ≡ t → IsEntry table t
    → AllByRecursion (λ a. has table a ≡ true) args
entry_args_have table f s args t is e =
    let P : Tree → Type 0 = IsEntry table in
    let Q : List Tree → Type 0 = λ us. AllByRecursion (λ a. has table a ≡ true) us in
    subst Q (list_of-trees_of args) (subst P (sym is) e)

-- the next line of a table
pub take_read : {X : Type 0} (xs : List X) (i : ℕ) (x : X) → i < length xs → x ≡ get_or xs i x → take (i + 1) xs ≡ take i xs ++ x ∷ []
take_read xs i x h e = take_more xs i x h ∙ ap (λ y. take i xs ++ y ∷ []) (sym e)

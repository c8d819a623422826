-- The words of an item, as the reader takes them apart.
use Rattle.std.proofs.Common.{◌≡◌, List, [], ◌∷◌, true, false, codes, Option, Some, None, Result, Ok, Err, inl, inr, refl, sym, ap, subst}
use Rattle.std.proofs.Common.{map}
use Rattle.std.specs.Global.{Vec}
use Rattle.std.specs.List.{AllByRecursion}
use Rattle.circ_lexer.specs.TokenList.{TokenList, IsWithin}
use Rattle.circ_statement.specs.declared.statements.Sides.{Sides}
use Rattle.circ_statement.specs.declared.statements.Statement.{Statement}
use Rattle.circ_statement.specs.declared.statements.Statement.TheVariants as st
use Rattle.circ_statement.specs.Words.{Word, keyword_of}
use Rattle.circ_statement.specs.Said as statement
use Rattle.circ_statement.specs.Said.{SaidSides, sides_of, said_of}
use Rattle.circ_statement.specs.Statement.{AreSides, AreUnderConditions}
use Rattle.circ_read.specs.declared.cause.Cause.{Cause}
use Rattle.circ_read.specs.declared.cause.Cause.TheVariants as cause
use Rattle.circ_read.specs.declared.cause.Fault.{Fault}
use Rattle.circ_read.specs.declared.cause.Fault.TheVariants.{Because, Memory}
use Rattle.circ_read.specs.Failing as theory_text
use Rattle.circ_read.specs.Steps.{IsSaid, GivesShape}
use Rattle.circ_read.proofs.Once.{SaidOnce}
use Rattle.circ_script.specs.declared.items.FoundItem.{FoundItem}
use Rattle.circ_script.specs.declared.items.FoundItem.TheVariants as at_tokens
use Rattle.circ_script.specs.Items.{Item, variables, goal, coinduction, reduce, IsGoal, bare, conditional, IsItem, begins_with}
use Rattle.circ_script.specs.Steps.{item_of, shaped, declaration, GivesFound, GivesItem, IsDeclaration, IsNoItem, out, no_item}
use Rattle.circ_script.proofs.Words.{same_word, heads_apart}
use Rattle.circ_script.proofs.ItemWords.{not_out, behind_add}

-- other first words than those of a script's items
pub record IsOther (ws : List Word) : Type 0 where
  pub add : begins_with (codes "add") ws ≡ false
  pub coinduction : begins_with (codes "coinduction") ws ≡ false
  pub reduce : begins_with (codes "reduce") ws ≡ false
  pub red : begins_with (codes "red") ws ≡ false

other_word : (ws : List Word) (w : Word) (rest : List Word) → begins_with w ws ≡ false → begins_with w (w ∷ rest) ≡ true → ws ≡ w ∷ rest → ⊥
other_word ws w rest f t e = let s = ap (begins_with w) e in cc

-- with another first word an item can only declare variables
only_declares : (ws : List Word) → IsOther ws → (item : Item) → IsItem ws item → IsDeclaration ws item
only_declares ws o (variables names sort) h = h
only_declares ws o (goal s cs) h = other_word ws (codes "add") _ o.add refl (behind_add ws s cs h).1
only_declares ws o coinduction h = other_word ws (codes "coinduction") _ o.coinduction refl h
only_declares ws o (reduce term) (inl h) = other_word ws (codes "reduce") _ o.reduce refl h
only_declares ws o (reduce term) (inr h) = other_word ws (codes "red") _ o.red refl h

declares_only : (ws : List Word) (item : Item) → IsDeclaration ws item → IsItem ws item
declares_only ws (variables names sort) h = h
declares_only ws (goal s cs) h = absurd h
declares_only ws coinduction h = absurd h
declares_only ws (reduce term) h = absurd h

no_item_as : (ws : List Word) (Is Was : Item → Type 0) → ((item : Item) → Is item → Was item) → (c : Cause) → IsNoItem ws Was c → IsNoItem ws Is c
no_item_as ws Is Was to c (out w h) = out w h
no_item_as ws Is Was to c (no_item kept none) = no_item kept (λ item h. none item (to item h))

-- a statement that declares variables, or another, which is none of a script
module _ (law : SaidOnce) (ts : TokenList) (ws : List Word) where
  another : (s : Statement) → declaration s ≡ None → IsSaid ws ts s → IsNoItem ws (IsDeclaration ws) cause.Shape
  another s e h = no_item h.kept go
    where
      as_variables : (s : Statement) → declaration s ≡ None → (names : List Word) (sort : Word) → said_of ts s ≡ statement.variables names sort → ⊥
      as_variables (st.Inclusion n) none names sort e = cc
      as_variables (st.Sorts n) none names sort e = cc
      as_variables (st.Operators forms args result a c i) none names sort e = cc
      as_variables (st.Variables n m) none names sort e = cc none
      as_variables (st.Equation l r cs x) none names sort e = cc
      as_variables (st.Derivative t) none names sort e = cc
      as_variables (st.Cases m n) none names sort e = cc

      go : (item : Item) → IsDeclaration ws item → ⊥
      go (variables names sort) k = as_variables s e names sort (law.said ws (said_of ts s) (statement.variables names sort) h.says k)
      go (goal s' cs) k = k
      go coinduction k = k
      go (reduce term) k = k

  pub declaration_as : (s : Statement) → IsSaid ws ts s → GivesItem (shaped (declaration s)) ts ws (IsDeclaration ws)
  declaration_as (st.Inclusion n) h = another (st.Inclusion n) refl h
  declaration_as (st.Sorts n) h = another (st.Sorts n) refl h
  declaration_as (st.Operators forms args result a c i) h = another (st.Operators forms args result a c i) refl h
  declaration_as (st.Variables n m) h = (h.says, h.within, h.kept)
  declaration_as (st.Equation l r cs x) h = another (st.Equation l r cs x) refl h
  declaration_as (st.Derivative t) h = another (st.Derivative t) refl h
  declaration_as (st.Cases m n) h = another (st.Cases m n) refl h

no_statement_as : (ws : List Word) (c : Cause) → theory_text.IsNoStatement ws c → IsNoItem ws (IsDeclaration ws) c
no_statement_as ws c (theory_text.left_out w h) = out w h
no_statement_as ws c (theory_text.no_shape kept none) = no_item kept go
  where
    go : (item : Item) → IsDeclaration ws item → ⊥
    go (variables names sort) k = none (statement.variables names sort) k
    go (goal s cs) k = k
    go coinduction k = k
    go (reduce term) k = k

pub unshaped_as : (ts : TokenList) (ws : List Word) (f : Fault) → GivesShape (Err f) ts ws → GivesItem (Err f) ts ws (IsDeclaration ws)
unshaped_as ts ws (Because c) h = no_statement_as ws c h
unshaped_as ts ws Memory h = tt

-- words that begin with a word of a script alone
module _ (ts : TokenList) (ws : List Word) (w : Word) (rest : List Word) (is : ws ≡ w ∷ rest) (none : keyword_of w ≡ None) where
  pub shaped_as : (o : Option FoundItem) → GivesFound o ts (IsItem (w ∷ rest)) → GivesItem (shaped o) ts ws (IsItem ws)
  shaped_as None h = no_item (λ v k. not_out ws w rest v none is k) (λ item k. h item (subst (λ x. IsItem x item) is k))
  shaped_as (Some p) h = (subst (λ x. IsItem x (item_of ts p)) (sym is) h.0, h.1, λ v k. not_out ws w rest v none is k)

-- other words
pub other_as : (ts : TokenList) (ws : List Word) → IsOther ws → (r : Result FoundItem Fault) → GivesItem r ts ws (IsDeclaration ws)
    → GivesItem r ts ws (IsItem ws)
other_as ts ws o (Ok p) h = (declares_only ws (item_of ts p) h.0, h.1, h.2)
other_as ts ws o (Err (Because c)) h = no_item_as ws (IsItem ws) (IsDeclaration ws) (only_declares ws o) c h
other_as ts ws o (Err Memory) h = tt

-- `coinduction` stands alone
pub alone : (rest : List Word) → (rest ≡ [] → ⊥) → (item : Item) → IsItem (codes "coinduction" ∷ rest) item → ⊥
alone rest some (variables names sort) h = h
alone rest some (goal s cs) h = heads_apart (codes "coinduction") (codes "add") _ _ refl (behind_add (codes "coinduction" ∷ rest) s cs h).1
alone rest some coinduction h = some (cc)
alone rest some (reduce term) (inl h) = heads_apart (codes "coinduction") (codes "reduce") _ _ refl h
alone rest some (reduce term) (inr h) = heads_apart (codes "coinduction") (codes "red") _ _ refl h

-- what stands after `add` is a goal
only_goal : (rest : List Word) (P : Item → Type 0) → ((s : SaidSides) (cs : List SaidSides) → IsGoal (codes "add" ∷ rest) s cs → P (goal s cs))
    → (item : Item) → IsItem (codes "add" ∷ rest) item → P item
only_goal rest P f (variables names sort) h = absurd h
only_goal rest P f (goal s cs) h = f s cs h
only_goal rest P f coinduction h = absurd (heads_apart (codes "add") (codes "coinduction") _ _ refl h)
only_goal rest P f (reduce term) (inl h) = absurd (heads_apart (codes "add") (codes "reduce") _ _ refl h)
only_goal rest P f (reduce term) (inr h) = absurd (heads_apart (codes "add") (codes "red") _ _ refl h)

-- after `add goal` stand sides, and after `add cgoal` sides under conditions
pub no_sides : (rest : List Word) → ((s : SaidSides) → AreSides rest s → ⊥) → (item : Item) → IsItem (codes "add" ∷ codes "goal" ∷ rest) item → ⊥
no_sides rest none = only_goal (codes "goal" ∷ rest) (λ i. ⊥) go
  where
    go : (s : SaidSides) (cs : List SaidSides) → IsGoal (codes "add" ∷ codes "goal" ∷ rest) s cs → ⊥
    go s cs (bare r is h) = none s (subst (λ x. AreSides x s) (cc) h)
    go s cs (conditional r ds is h) = heads_apart (codes "goal") (codes "cgoal") rest r refl (cc)

pub no_conditions : (rest : List Word) → ((s : SaidSides) (cs : List SaidSides) → AreUnderConditions rest s cs → ⊥)
    → (item : Item) → IsItem (codes "add" ∷ codes "cgoal" ∷ rest) item → ⊥
no_conditions rest none = only_goal (codes "cgoal" ∷ rest) (λ i. ⊥) go
  where
    go : (s : SaidSides) (cs : List SaidSides) → IsGoal (codes "add" ∷ codes "cgoal" ∷ rest) s cs → ⊥
    go s cs (bare r is h) = heads_apart (codes "cgoal") (codes "goal") rest r refl (cc)
    go s cs (conditional r ds is h) = none s ds (subst (λ x. AreUnderConditions x s ds) (cc) h)

module _ (ts : TokenList) (rest : List Word) (s : Sides) (conds : Vec Sides) where
  pub bare_as : conds.items ≡ [] → AreSides rest (sides_of ts s) → IsWithin ts s.left → IsWithin ts s.right
      → GivesFound (Some (at_tokens.Goal s conds)) ts (IsItem (codes "add" ∷ codes "goal" ∷ rest))
  bare_as e h l r = (
    subst (λ cs. IsGoal (codes "add" ∷ codes "goal" ∷ rest) (sides_of ts s) (map (sides_of ts) cs)) (sym e) (bare rest refl h),
    (l, r, subst (AllByRecursion (λ s. IsWithin ts s.left × IsWithin ts s.right)) (sym e) tt),
  )

  pub conditional_as : AreUnderConditions rest (sides_of ts s) (map (sides_of ts) conds.items) → IsWithin ts s.left → IsWithin ts s.right
      → AllByRecursion (λ s. IsWithin ts s.left × IsWithin ts s.right) conds.items
      → GivesFound (Some (at_tokens.Goal s conds)) ts (IsItem (codes "add" ∷ codes "cgoal" ∷ rest))
  conditional_as h l r all = (conditional rest (map (sides_of ts) conds.items) refl h, (l, r, all))

-- another word than `goal` and `cgoal`
pub no_goal_word : (rest : List Word) → begins_with (codes "goal") rest ≡ false → begins_with (codes "cgoal") rest ≡ false
    → (item : Item) → IsItem (codes "add" ∷ rest) item → ⊥
no_goal_word rest a b = only_goal rest (λ i. ⊥) go
  where
    go : (s : SaidSides) (cs : List SaidSides) → IsGoal (codes "add" ∷ rest) s cs → ⊥
    go s cs (bare r is h) = other_word rest (codes "goal") r a (same_word (codes "goal")) (cc)
    go s cs (conditional r ds is h) = other_word rest (codes "cgoal") r b (same_word (codes "cgoal")) (cc)

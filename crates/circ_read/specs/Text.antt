-- A text on tokens: a head, statements that each end at the next stop, and an end. What a statement adds is a parameter here.
use Rattle.std.specs.Prelude.{◌≡◌, ℕ, ◌+◌, List, [], ◌∷◌, ◌++◌, Bool, true, false, if◌then◌else◌, nat_eq, codes}
use Rattle.std.specs.List.{list_any}
use Rattle.std.specs.Cmp.Lexicographic.{pointwise}
use Rattle.circ_lexer.specs.TokenList.{AreTokens}
use Rattle.circ_statement.specs.Said.{Said}
use Rattle.circ_statement.specs.Words.{is_name}
use Rattle.circ_statement.specs.Statement.{IsStatement, IsLeftOut}

abbrev pub is_stop : List ℕ → Bool
is_stop w = pointwise nat_eq w (codes ".")

abbrev pub HasNoStop : List (List ℕ) → Type 0
HasNoStop ws = list_any is_stop ws ≡ false

-- The tokens are a head with this name, perhaps after a parenthesis, before a body.
pub record IsTextHead (ws : List (List ℕ)) (opened : Bool) (name : List ℕ) (body : List (List ℕ)) : Type 0 where
  pub is_name : is_name name ≡ true
  pub words : ws ≡ (if opened then codes "(" ∷ codes "theory" ∷ name ∷ codes "is" ∷ body else codes "theory" ∷ name ∷ codes "is" ∷ body)

-- the end of a text, with a parenthesis where one stands before the head
abbrev pub ending : Bool → List (List ℕ)
ending opened = if opened then codes "endtheory" ∷ codes ")" ∷ [] else codes "endtheory" ∷ []

-- What a statement's tokens say is added, where no word leaves them out.
pub record AddsTokens {A : Type 0} (Adds : A → Said → A → Type 0) (a : A) (ws : List (List ℕ)) (b : A) : Type 0 where
  pub said : Said
  pub kept : (w : List ℕ) → IsLeftOut ws w → ⊥
  pub says : IsStatement ws said
  pub adds : Adds a said b

-- After k statements of a body, which begin at the first value, the value is `now` and these tokens are left.
pub data Reaches {A : Type 0} (Adds : A → Said → A → Type 0) (first : A) (body : List (List ℕ))
    : (k : ℕ) (now : A) (left : List (List ℕ)) → Type 0 where
  start : Reaches Adds first body 0 first body
  next : (k : ℕ) (a b : A) (here ws left : List (List ℕ)) → Reaches Adds first body k a here → here ≡ ws ++ codes "." ∷ left → HasNoStop ws
      → AddsTokens Adds a ws b → Reaches Adds first body (k + 1) b left

-- The bytes are a text, whose statements lead from the value for its name to this one.
pub record ReadsTo {A : Type 0} (Adds : A → Said → A → Type 0) (begin : List ℕ → A) (bytes : List ℕ) (last : A) : Type 0 where
  pub tokens : List (List ℕ)
  pub are_tokens : AreTokens bytes tokens
  pub opened : Bool
  pub name : List ℕ
  pub body : List (List ℕ)
  pub head : IsTextHead tokens opened name body
  pub count : ℕ
  pub statements : Reaches Adds (begin name) body count last (ending opened)

-- What operators' statements say.
use Rattle.std.proofs.Common.{◌≡◌, ◌≢◌, List, [], Bool, true, Err, refl, sym, ◌∙◌, subst}
use Rattle.circ_lexer.specs.TokenList.{TokenList}
use Rattle.circ_lexer.specs.declared.tokens.Span.{Span}
use Rattle.circ_statement.specs.declared.attributes.Attributes.{Attributes}
use Rattle.circ_statement.specs.declared.fault.StatementFault.{StatementFault}
use Rattle.circ_statement.specs.declared.fault.StatementFault.TheVariants.{LeftOut, Shape, Memory}
use Rattle.circ_statement.specs.Words.{Word, is_name, are_names}
use Rattle.circ_statement.specs.Heads.{IsHead, IsBracket, IsFirstForeign, HasForeign}
use Rattle.circ_statement.specs.Attributes.{HasAttributes, Spelled, AreSpelled}
use Rattle.circ_statement.specs.Said.{Said, operators}
use Rattle.circ_statement.specs.Statement.{forms_of, Declares, IsOperators, SaysOrLeavesOut}
use Rattle.circ_statement.specs.Reading.{GivesSpellings}
use Rattle.circ_statement.proofs.HeadParts.{SameHead, head_same}
use Rattle.circ_statement.proofs.Marks.{given_same}
use Rattle.circ_statement.proofs.Spelt.{spelled_same}

moved : (o : Bool) (f g a b : List Word) (r s : Word) (m n : List Word) (said : Said) → SameHead f g a b r s m n → Declares o f a r m said → Declares o g b s n said
moved o f g a b r s m n said e d =
    subst (λ x. Declares o x b s n said) e.front (subst (λ x. Declares o f x s n said) e.args (subst (λ x. Declares o f a x n said) e.result (subst (λ x. Declares o f a r x said) e.marks d)))

module _ {ws front args : List Word} {result : Word} {marks : List Word} (head : IsHead ws front args result marks) where
  pub declared_by : (o : Bool) (said : Said) → IsOperators o ws said → Declares o front args result marks said
  declared_by o said h = moved o h.front front h.args args h.result result h.marks marks said (head_same h.head head) h.declares

  pub foreign_in : (w : Word) → HasForeign ws w → (inside : List Word) × ((rest : List Word) × (IsBracket marks inside rest × IsFirstForeign inside w))
  foreign_in w h =
      (h.inside, (h.rest, (subst (λ m. IsBracket m h.inside h.rest) (head_same h.head head).marks h.bracket, h.foreign)))

  pub unforeign : ((inside rest : List Word) (w : Word) → IsBracket marks inside rest → IsFirstForeign inside w → ⊥) → (w : Word) → HasForeign ws w → ⊥
  unforeign g w h = let at = foreign_in w h in g at.0 at.1.0 w at.1.1.0 at.1.1.1

  module _ (o : Bool) where
    pub ungiven : ((a : Attributes) → HasAttributes marks a → ⊥) → (said : Said) → IsOperators o ws said → ⊥
    ungiven g said h = let d = declared_by o said h in g d.given d.attributes

    pub unnamed : (front ≢ [] → are_names args ≡ true → is_name result ≡ true → ⊥) → (said : Said) → IsOperators o ws said → ⊥
    unnamed g said h = let d = declared_by o said h in g d.some d.are_names d.is_name

    module _ (given : Attributes) (has : HasAttributes marks given) where
      unspelled : ((ss : List Spelled) → AreSpelled given (forms_of o front) ss → ⊥) → (said : Said) → IsOperators o ws said → ⊥
      unspelled g said h =
          let d = declared_by o said h in
          g d.forms (subst (λ a. AreSpelled a (forms_of o front) d.forms) (given_same marks d.given given d.attributes has) d.spelled)

      pub fault_of : (fault : StatementFault) (ts : TokenList) (span : Span) → ((w : Word) → HasForeign ws w → ⊥) → GivesSpellings (Err fault) given (forms_of o front)
          → SaysOrLeavesOut (Err fault) ts span (IsOperators o ws) (HasForeign ws)
      fault_of (LeftOut n) ts span none g = absurd g
      fault_of Shape ts span none g = (unspelled g, none)
      fault_of Memory ts span none g = tt

      pub is_declared : (forms : List Spelled) → AreSpelled given (forms_of o front) forms → front ≢ [] → are_names args ≡ true → is_name result ≡ true
          → IsOperators o ws (operators forms args result given.assoc given.comm given.idem)
      is_declared forms spelled some names name = record {
        front = front;
        args = args;
        result = result;
        marks = marks;
        head = head;
        declares = record { given = given; forms = forms; some = some; are_names = names; is_name = name; attributes = has; spelled = spelled; says = refl };
      }

pub declares_same : (o : Bool) (front args : List Word) (result : Word) (marks : List Word) (a b : Said) → Declares o front args result marks a → Declares o front args result marks b → a ≡ b
declares_same o front args result marks a b h k =
    let given : h.given ≡ k.given = given_same marks h.given k.given h.attributes k.attributes in
    let forms : h.forms ≡ k.forms = spelled_same k.given (forms_of o front) h.forms k.forms (subst (λ g. AreSpelled g (forms_of o front) h.forms) given h.spelled) k.spelled in
    h.says ∙ (λ i. operators (forms i) args result (given i).assoc (given i).comm (given i).idem) ∙ sym k.says

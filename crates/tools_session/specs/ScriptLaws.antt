-- What the definition of a session leaves open (own): only when memory is refused.
use Rattle.std.specs.Prelude.{◌≡◌, ℕ, List, ◌++◌, ◌⊎◌}
use Rattle.base_meaning.specs.declared.edits.EditError.TheVariants.{Memory}
use Rattle.tools_session.specs.Script.{LineLeads, Meaning, Session, SessionState, refused_text}

-- a line leads from a state to one state, with one reply, unless one of two replies is a refusal as
-- out of memory
abbrev pub OneAnswer : Type 0
OneAnswer = (meaning : Meaning) (before after other : SessionState) (reply answer : List ℕ) → LineLeads meaning before after reply
    → LineLeads meaning before other answer
    → (reply ≡ refused_text Memory) ⊎ (answer ≡ refused_text Memory) ⊎ ((after ≡ other) × (reply ≡ answer))

-- these replies begin with the out-of-memory reply
abbrev pub SaysMemory : List ℕ → Type 0
SaysMemory replies = (later : List ℕ) × (replies ≡ refused_text Memory ++ later)

-- two outputs are equal up to a byte from which one of them continues with the
-- out-of-memory reply
pub record DifferAtMemory (output other : List ℕ) : Type 0 where
  pub front : List ℕ
  pub rest : List ℕ
  pub other_rest : List ℕ
  pub is : output ≡ front ++ rest
  pub other_is : other ≡ front ++ other_rest
  pub wants : SaysMemory rest ⊎ SaysMemory other_rest

-- two outputs of one input are equal, or equal up to a byte from which one continues with the
-- out-of-memory reply
abbrev pub OneOutput : Type 0
OneOutput = (input output other : List ℕ) → Session input output → Session input other → (output ≡ other) ⊎ DifferAtMemory output other

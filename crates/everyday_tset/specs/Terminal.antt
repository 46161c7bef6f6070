-- Which terminal there is (tset(1)): the one that is named, else that of `TERM`, else `unknown`; mappings
-- apply to one that is not named. If the type begins with a question mark, the user is asked.
use Rattle.std.specs.Prelude.{ℕ, ◌==◌, if◌then◌else◌, List, [], ◌∷◌, ◌++◌, codes, Option, Some, None, unwrap_or}
use Rattle.ti_text.specs.Ascii as ascii
use Rattle.everyday_tset.specs.Mappings.{mapped}
use Rattle.everyday_tset.specs.Settings.{Settings}
use Rattle.everyday_tset.specs.declared.terminal.Reply as declared
use Rattle.everyday_tset.specs.declared.terminal.Reply.TheVariants as reply

-- the type of terminal at first, given that of `TERM` and the rate of the line
abbrev pub first_type : Settings → Option (List ℕ) → ℕ → List ℕ
first_type s term rate = unwrap_or s.terminal (mapped s.mappings (unwrap_or term (codes "unknown")) rate)

-- what the user is asked about, if the user is: the type after a question mark, which may be empty
abbrev pub question_of : List ℕ → Option (List ℕ)
question_of [] = None
question_of (sign ∷ type) = if sign == ascii.byte_of "?" then Some type else None

-- the type that is offered, in brackets
abbrev pub offered : List ℕ → List ℕ
offered [] = []
offered (sign ∷ signs) = codes "[" ++ (sign ∷ signs) ++ codes "] "

-- what the user is asked
abbrev pub prompt_of : List ℕ → List ℕ
prompt_of type = codes "Terminal type? " ++ offered type

-- what an answer says: a type of terminal; nothing, so that the user is asked again; or that no answer comes
pub data Reply : Type 0 where
  named : List ℕ → Reply
  again : Reply
  ended : Reply

-- what is said by an empty line, given what is offered
abbrev pub by_nothing : List ℕ → Reply → Reply
by_nothing [] nothing = nothing
by_nothing (sign ∷ signs) nothing = named (sign ∷ signs)

-- what is said by a line, and by the end of the input; without a type in it the one that is offered
abbrev pub reply_to : List ℕ → Option (List ℕ) → Reply
reply_to type None = by_nothing type ended
reply_to type (Some []) = by_nothing type again
reply_to type (Some (sign ∷ signs)) = named (sign ∷ signs)

-- the same as the code holds it
abbrev pub reply_of : declared.Reply → Reply
reply_of (reply.Named type) = named type.now
reply_of reply.Again = again
reply_of reply.Ended = ended

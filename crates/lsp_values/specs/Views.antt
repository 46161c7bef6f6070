-- What a reply that holds a value of JSON means.
use Rattle.serde_json.specs.View.{view}
use Rattle.lsp_values.specs.Shapes.{Said, said_answer, said_refusal}
use Rattle.lsp_values.specs.declared.replies.Reply.{Reply}
use Rattle.lsp_values.specs.declared.replies.Reply.TheVariants.{Answer, Refusal}

-- what comes of a question, held in memory
abbrev pub reply_view : Reply → Said
reply_view (Answer value) = said_answer (view value)
reply_view (Refusal failure) = said_refusal failure

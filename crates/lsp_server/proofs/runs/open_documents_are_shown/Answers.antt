use Rattle.lsp_server.proofs.Shown.{all_answered, all_served_at_last, all_served_shown, all_shown, all_shown_at_last}
use Rattle.lsp_server.proofs.runs.open_documents_are_shown.Goals as goal

pub returns : goal.returns
returns c = record {
  messages = all_shown;
  last = all_shown_at_last;
  questions = all_answered;
  frames = all_served_shown;
  last_frame = all_served_at_last;
}

-- Words on values.
use Rattle.std.specs.Prelude.{Bool, true, false}
use Rattle.ti_layout.specs.Values.{Content, content_true, content_number, content_text, content_cancelled}

-- whether a content is a cancel
abbrev pub is_cancel : Content → Bool
is_cancel content_true = false
is_cancel (content_number n) = false
is_cancel (content_text t) = false
is_cancel content_cancelled = true

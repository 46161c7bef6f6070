use Rattle.std.proofs.Common.{◌≡◌, ◌∷◌, ◌++◌, append_assoc, codes, ap, ◌∙◌, List, [], ℕ}
use Rattle.std.specs.Fmt.{decimal}
use Rattle.std.specs.Rc.{rc_slice_items}
use Rattle.base_meaning.specs.Report.{shown_detail}
use Rattle.user_compiling.proofs.report.write_bad.Goals as goal

-- the parts of the line are appended in turn
in_turn : (old number code detail a b c d e : List ℕ) → a ≡ old ++ number → b ≡ a ++ code → c ≡ b ++ 32 ∷ [] → d ≡ c ++ detail → e ≡ d ++ 10 ∷ []
    → e ≡ old ++ (number ++ code ++ (32 ∷ detail) ++ 10 ∷ [])
in_turn old number code detail a b c d e f g h i j = rw (j, i, h, g, f) (simp append_assoc)

pub returns : goal.returns
returns c =
    let old = c.args.out.now.items in
    in_turn old (decimal c.args.number) (codes ": W5 BadUserDefined") (shown_detail (rc_slice_items c.args.name.now)) c.extend_from_slice.new.self.items
    c.extend_from_slice-2.new.self.items c.push.new.self.items c.write_detail.new.out.items c.push-2.new.self.items
    (c.in_ok-extend_from_slice.ensures.items ∙ ap (λ digits. old ++ digits) (c.as_bytes.ensures.value ∙ c.in_ok-digits.ensures.ok))
    c.in_ok-extend_from_slice-2.ensures.items c.in_ok-push.ensures.items
    (c.in_ok-write_detail.ensures ∙ ap (λ name. c.push.new.self.items ++ shown_detail name) c.as_slice.ensures.value) c.in_ok-push-2.ensures.items

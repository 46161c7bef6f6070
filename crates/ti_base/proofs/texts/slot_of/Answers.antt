use Rattle.std.proofs.Common.{◌≤◌, List, ℕ, length, get_or, sym, ◌∙◌, ap, arith, rules}
use Rattle.std.proofs.lemmas.Grind.{common_steps}
use Rattle.ti_source.specs.declared.parsing.Rule.{Rule}
use Rattle.ti_source.specs.Reading.{Reading, Said, said_flag, said_number, said_text, said_cancel, said_import}
use Rattle.ti_source.specs.Sound.{IsLineOf, IsWellRead, SetsItsKind}
use Rattle.ti_text.specs.Limits.{block_bytes_max}
use Rattle.base_meaning.specs.Readings.{by_rule}
use Rattle.base_meaning.specs.Usable.{IsLine, IsUsable, SetsWell}
use Rattle.base_meaning.proofs.Ruling.{read_by}
use Rattle.ti_base.specs.inside.Texts.{IsBlockText}
use Rattle.ti_base.proofs.texts.slot_of.Goals as goal

fits_kind : (said : Said) → SetsItsKind said → SetsWell said
fits_kind (said_flag c) h = search rules
fits_kind (said_number c n) h = search rules
fits_kind (said_text c t) h = search rules
fits_kind (said_cancel c) h = search rules
fits_kind (said_import name) h = h

-- a text has at most one line more than bytes
line_within : (text : List ℕ) (line : ℕ) → length text ≤ block_bytes_max → IsLineOf text line → IsLine line
line_within text line l h = grind (arith, common_steps)

-- what is read of a block within the limit can be used
usable_read : (text : List ℕ) (block : Reading) → IsBlockText text → IsWellRead text block → IsUsable block
usable_read text block t r = record {
  named = λ e. (let w = r.named e in (w.some, w.no_nul, w.short));
  sets = λ k d l. fits_kind (get_or block.items k d).said (r.sets k d l);
  item_lines = λ k d l. line_within text (get_or block.items k d).line t.short (r.item_lines k d l);
  fault_lines = λ k d l. line_within text (get_or block.faults k d).line t.short (r.fault_lines k d l);
}

-- by whatever rule
usable_by : (rule : Rule) (block : Reading) → IsUsable block → IsUsable (by_rule rule block)
usable_by rule block u = record { named = u.named; sets = u.sets; item_lines = u.item_lines; fault_lines = u.fault_lines }

pub returns-clause-sound : goal.returns-clause-sound
returns-clause-sound c = record {
  text = rw c.in_ok-text.ensures.items c.requires.text;
  read = rw c.in_ok-text.ensures.items (ap (by_rule c.args.rule) c.requires.computed ∙ sym (read_by c.args.rule c.args.text.now));
  usable = usable_by c.args.rule _ (usable_read c.args.text.now _ c.requires.text c.requires.sound);
}

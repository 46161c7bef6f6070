-- Sections in memory, as plain data (own).
use Rattle.everyday_initializers.specs.Marks as spec
use Rattle.everyday_initializers.specs.declared.marks.Marks.{Marks}
use Rattle.everyday_initializers.specs.declared.marks.Section.{Section}

-- a section
abbrev pub section_seen : Section → spec.Section
section_seen s = record { count = s.count; rest = s.rest.now }

-- the sections of a file
abbrev pub marks_seen : Marks → spec.Marks
marks_seen m = record { format = m.format; flags = section_seen m.flags; numbers = section_seen m.numbers; texts = section_seen m.texts }

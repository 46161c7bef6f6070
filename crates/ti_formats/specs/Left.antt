-- What is left of a format, as it is read (own).
use Rattle.ti_formats.specs.Reading.{Scan, Unread}
use Rattle.ti_formats.specs.inside.Formats.{accepted_of, scan}

-- the tokens that are left, up to the first that may not come where it is
abbrev pub left_of : Unread → Scan
left_of unread = accepted_of unread.phases (scan 0 unread.place unread.text)

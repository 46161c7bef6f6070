-- The modes of the line to a terminal (termios(3)) as tset(1) changes them: reset makes them sane, and both
-- set the characters that erase, interrupt and kill, and the conversions of returns and newlines.
use Rattle.std.specs.Prelude.{ℕ, ◌+◌, ◌-◌, ◌==◌, if◌then◌else◌, bit_and, bit_or, Option, Some, None}
use Rattle.ti_text.specs.Ascii as ascii
use Rattle.ti_layout.specs.View.{Entry}
use Rattle.everyday_starting.specs.Modes.{erase_of, newline_of}
use Rattle.everyday_tset.specs.Settings.{Settings}
use Rattle.everyday_tset.specs.declared.modes.Modes.{Modes}

-- ---- of the input

-- a break is ignored
abbrev pub IGNBRK : ℕ
IGNBRK = 1

-- a break interrupts
abbrev pub BRKINT : ℕ
BRKINT = 2

-- a byte with a wrong parity is ignored
abbrev pub IGNPAR : ℕ
IGNPAR = 4

-- such a byte is marked
abbrev pub PARMRK : ℕ
PARMRK = 8

-- the parity of input is checked
abbrev pub INPCK : ℕ
INPCK = 16

-- the eighth bit of input is cut off
abbrev pub ISTRIP : ℕ
ISTRIP = 32

-- a newline is read as a return
abbrev pub INLCR : ℕ
INLCR = 64

-- a return is ignored
abbrev pub IGNCR : ℕ
IGNCR = 128

-- a return is read as a newline
abbrev pub ICRNL : ℕ
ICRNL = 256

-- upper case is read as lower case
abbrev pub IUCLC : ℕ
IUCLC = 512

-- the characters `start` and `stop` start and stop output
abbrev pub IXON : ℕ
IXON = 1024

-- any character starts it again
abbrev pub IXANY : ℕ
IXANY = 2048

-- input is started and stopped
abbrev pub IXOFF : ℕ
IXOFF = 4096

-- the bell rings if the queue of input is full
abbrev pub IMAXBEL : ℕ
IMAXBEL = 8192

-- ---- of the output

-- output is processed
abbrev pub OPOST : ℕ
OPOST = 1

-- lower case is written as upper case
abbrev pub OLCUC : ℕ
OLCUC = 2

-- a return is written before a newline
abbrev pub ONLCR : ℕ
ONLCR = 4

-- a return is written as a newline
abbrev pub OCRNL : ℕ
OCRNL = 8

-- no return is written in the first column
abbrev pub ONOCR : ℕ
ONOCR = 16

-- a newline returns to the first column
abbrev pub ONLRET : ℕ
ONLRET = 32

-- fill bytes are sent for a delay
abbrev pub OFILL : ℕ
OFILL = 64

-- these are DEL
abbrev pub OFDEL : ℕ
OFDEL = 128

-- the delays NLDLY, CRDLY, TABDLY, BSDLY, VTDLY and FFDLY
abbrev pub delays : ℕ
delays = 256 + 1536 + 6144 + 8192 + 16384 + 32768

-- the delay of tabs that is their expansion
abbrev pub TAB3 : ℕ
TAB3 = 6144

-- ---- of the control of the line

-- the bits of a byte, in all
abbrev pub CSIZE : ℕ
CSIZE = 48

-- there are eight of them
abbrev pub CS8 : ℕ
CS8 = 48

-- there are two stop bits
abbrev pub CSTOPB : ℕ
CSTOPB = 64

-- input is received
abbrev pub CREAD : ℕ
CREAD = 128

-- bytes have a parity
abbrev pub PARENB : ℕ
PARENB = 256

-- it is odd
abbrev pub PARODD : ℕ
PARODD = 512

-- the lines of a modem are ignored
abbrev pub CLOCAL : ℕ
CLOCAL = 2048

-- ---- of the editing of lines

-- characters send signals
abbrev pub ISIG : ℕ
ISIG = 1

-- input comes in lines that can be edited
abbrev pub ICANON : ℕ
ICANON = 2

-- the terminal has only upper case
abbrev pub XCASE : ℕ
XCASE = 4

-- input is echoed
abbrev pub ECHO : ℕ
ECHO = 8

-- the character that erases takes the one before it off the screen
abbrev pub ECHOE : ℕ
ECHOE = 16

-- the character that kills the line ends the line on the screen
abbrev pub ECHOK : ℕ
ECHOK = 32

-- a newline is echoed though input is not
abbrev pub ECHONL : ℕ
ECHONL = 64

-- signals leave the queues as they are
abbrev pub NOFLSH : ℕ
NOFLSH = 128

-- output of a background job stops it
abbrev pub TOSTOP : ℕ
TOSTOP = 256

-- control characters are echoed with a caret
abbrev pub ECHOCTL : ℕ
ECHOCTL = 512

-- the character that kills the line takes it off the screen
abbrev pub ECHOKE : ℕ
ECHOKE = 2048

-- all flags of a kind
abbrev pub all_flags : ℕ
all_flags = 4294967295

-- flags without some, and with others
abbrev pub changed : ℕ → ℕ → ℕ → ℕ
changed flags off on = bit_or (bit_and flags (all_flags - off)) on

-- ---- the usual characters

-- a character, or the usual one if it is undefined
abbrev pub or_usual : ℕ → ℕ → ℕ
or_usual character usual = if character == 0 then usual else character

-- the control character of a letter
abbrev pub control : ℕ → ℕ
control letter = letter - 64

-- the usual character that erases, DEL
abbrev pub usual_erase : ℕ
usual_erase = 127

-- the usual character that interrupts, `^C`
abbrev pub usual_interrupt : ℕ
usual_interrupt = control (ascii.byte_of "C")

-- the usual character that kills the line, `^U`
abbrev pub usual_kill : ℕ
usual_kill = control (ascii.byte_of "U")

-- ---- what is set

-- sane modes: lines are edited and echoed, returns and newlines converted, and no character is undefined
abbrev pub sane : Modes → Modes
sane m = record m {
  input = changed m.input (IGNBRK + PARMRK + INPCK + ISTRIP + INLCR + IGNCR + IUCLC + IXANY + IXOFF) (BRKINT + IGNPAR + ICRNL + IXON + IMAXBEL);
  output = changed m.output (OLCUC + OCRNL + ONOCR + ONLRET + OFILL + OFDEL + delays) (OPOST + ONLCR);
  control = changed m.control (CSIZE + CSTOPB + PARENB + PARODD + CLOCAL) (CS8 + CREAD);
  local = changed m.local (ECHONL + NOFLSH + TOSTOP + XCASE) (ISIG + ICANON + ECHO + ECHOE + ECHOK + ECHOCTL + ECHOKE);
  interrupt = or_usual m.interrupt usual_interrupt;
  quit = or_usual m.quit (control (ascii.byte_of "\\"));
  erase = or_usual m.erase usual_erase;
  kill = or_usual m.kill usual_kill;
  end_of_file = or_usual m.end_of_file (control (ascii.byte_of "D"));
  start = or_usual m.start (control (ascii.byte_of "Q"));
  stop = or_usual m.stop (control (ascii.byte_of "S"));
  suspend = or_usual m.suspend (control (ascii.byte_of "Z"));
  reprint = or_usual m.reprint (control (ascii.byte_of "R"));
  discard = or_usual m.discard (control (ascii.byte_of "O"));
  word_erase = or_usual m.word_erase (control (ascii.byte_of "W"));
  literal = or_usual m.literal (control (ascii.byte_of "V"));
}

-- the character that is given, else the one that the line has, or the usual one if that is undefined
abbrev pub given_or : Option ℕ → ℕ → ℕ → ℕ
given_or (Some character) usual old = character
given_or None usual old = or_usual old usual

-- the characters that words give, or else the usual ones of the terminal for those that are undefined
abbrev pub with_characters : Entry → Settings → Modes → Modes
with_characters entry s m = record m {
  erase = given_or s.erase (erase_of entry) m.erase;
  interrupt = given_or s.interrupt usual_interrupt m.interrupt;
  kill = given_or s.kill usual_kill m.kill;
}

-- returns and newlines are converted, unless the newline of the terminal is a line feed alone; what is typed
-- is echoed
abbrev pub with_conversions : ℕ → Modes → Modes
with_conversions newline m =
    let local = changed m.local 0 (ECHO + ECHOE + ECHOK) in
    if newline == ascii.byte_of "f" then record m { input = changed m.input ICRNL 0; output = changed m.output ONLCR 0; local = local }
    else record m { input = changed m.input 0 ICRNL; output = changed m.output 0 ONLCR; local = local }

-- the modes of the line to a terminal
abbrev pub modes_for : Entry → Settings → Modes → Modes
modes_for entry s m = with_conversions (newline_of entry) (with_characters entry s m)

-- the modes that are set while strings are sent, if some are: of what is done to output only the conversions
-- stay
abbrev pub while_sending : Modes → Option Modes
while_sending m =
    let kept = bit_and m.output (TAB3 + ONLCR + OCRNL + ONLRET) in
    if kept == 0 then None else Some (record m { output = kept })

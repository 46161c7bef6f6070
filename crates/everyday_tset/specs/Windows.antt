-- The size of the window (tset(1), `-w`): a window without one gets that of the environment or the entry.
use Rattle.std.specs.Prelude.{ℕ, ◌==◌, nat_lt, ◌&&◌, Bool, if◌then◌else◌, Option, Some, None}
use Rattle.everyday_tset.specs.declared.windows.Window.{Window}

-- the greatest number of lines and of columns
abbrev pub size_max : ℕ
size_max = 32767

-- whether a number of lines or columns is one that a window can have
abbrev pub can_be_set : ℕ → Bool
can_be_set n = nat_lt 0 n && nat_lt n 32768

-- the size that is set
abbrev pub window_to_set : Window → Window → Option Window
window_to_set now wanted =
    if now.lines == 0 && now.columns == 0 && can_be_set wanted.lines && can_be_set wanted.columns then Some wanted else None

-- how many columns strings are made for: those of the window if it has a size, else the others
abbrev pub columns_of : Window → ℕ → ℕ
columns_of now columns = if nat_lt 0 now.lines && nat_lt 0 now.columns then now.columns else columns

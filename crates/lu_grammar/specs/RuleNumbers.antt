-- The numbers of the rules on any file (format page, "How a fault is found").
use Rattle.std.specs.Prelude.{ℕ}

-- a part of a record ends past the end of the file
abbrev pub ends : ℕ
ends = 1

-- a number is spelled with more bytes than it needs, or than its kind may have
abbrev pub long_number : ℕ
long_number = 2

-- a number is over the limit of its kind
abbrev pub too_great : ℕ
too_great = 3

-- the bytes of a text are not UTF-8
abbrev pub not_utf8 : ℕ
not_utf8 = 4

-- a needed file is not there
abbrev pub missing : ℕ
missing = 5

-- bytes follow the last record
abbrev pub trailing : ℕ
trailing = 6

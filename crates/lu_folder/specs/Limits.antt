-- How large files may be.
use Rattle.std.specs.Prelude.{ℕ}

-- the most bytes of a file that is read, 2^31 - 1
abbrev pub file_limit : ℕ
file_limit = 2147483647

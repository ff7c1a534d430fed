-- The greatest lengths, places and counts (format page, "Documents").
use Rattle.std.specs.Prelude.{ℕ}

-- the greatest length of a name, of the text of a term and of a payload, in bytes
abbrev pub most_bytes : ℕ
most_bytes = 65535

-- the greatest position and offset
abbrev pub most_place : ℕ
most_place = 2147483647

-- the greatest number of documents of a segment
abbrev pub most_documents : ℕ
most_documents = 268435455

-- the greatest number of tokens of a field in a document
abbrev pub most_tokens : ℕ
most_tokens = 16777215

-- the greatest length of a file, in bytes
abbrev pub most_file_bytes : ℕ
most_file_bytes = 2147483647

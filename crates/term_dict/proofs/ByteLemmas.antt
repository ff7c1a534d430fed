-- What is spelled are bytes.
use Rattle.std.proofs.Common.{ℕ, ℤ, ◌^◌, ◌<◌, Bool, true, false, leb, List, [], ◌++◌, length, pos, negsuc, arith}
use Rattle.std.specs.Prelude.{if◌then◌else◌}
use Rattle.std.specs.Int.{w32, w64, cast_unsigned}
use Rattle.lu_grammar.specs.Bytes.{IsBytes}
use Rattle.lu_grammar.proofs.Codecs.{IsBytes-nil, IsBytes-append, IsBytes-groups, IsBytes-four, IsBytes-eight}
use Rattle.lu_grammar.specs.Parts.{int32, int64, num, vint, vlong, groups, spelling}
use Rattle.lu_types.specs.declared.term.TermNumbers.{TermNumbers}
use Rattle.term_dict.specs.Entries.{TermRecord}
use Rattle.term_dict.specs.Canonical.{skip_delta_bytes, term_record_bytes, header_bytes}

pub vint-bytes : (n : ℕ) → n < 2 ^ 32 → IsBytes (spelling vint n)
vint-bytes n lt = IsBytes-groups 4 n (omega arith)

pub vlong-bytes : (n : ℕ) → n < 2 ^ 63 → IsBytes (spelling vlong n)
vlong-bytes n lt = IsBytes-groups 8 n (omega arith)

pub header_bytes-bytes : (numbers : TermNumbers) (count : ℕ) → IsBytes (header_bytes numbers count)
header_bytes-bytes numbers count =
    let a = spelling int32 (negsuc 3) in
    let b = spelling int64 (pos count) in
    let c = spelling int32 (pos numbers.index_interval) in
    let d = spelling int32 (pos numbers.skip_interval) in
    let e = spelling int32 (pos numbers.max_levels) in
    let of_four : (z : ℤ) → IsBytes (spelling int32 z) = λ z. IsBytes-four (cast_unsigned w32 z) in
    IsBytes-append a (b ++ (c ++ (d ++ e))) (of_four (negsuc 3)) (IsBytes-append b (c ++ (d ++ e)) (IsBytes-eight (cast_unsigned w64 (pos count)))
    (IsBytes-append c (d ++ e) (of_four (pos numbers.index_interval)) (IsBytes-append d e (of_four (pos numbers.skip_interval)) (of_four (pos numbers.max_levels)))))

-- the bytes of an entry whose numbers are small
pub record IsSmallEntry (e : TermRecord) : Type 0 where
  pub prefix : e.prefix < 2 ^ 32
  pub count : length e.suffix < 2 ^ 32
  pub suffix : IsBytes e.suffix
  pub field : e.field < 2 ^ 32
  pub doc_freq : e.doc_freq < 2 ^ 32
  pub freq : e.freq < 2 ^ 63
  pub prox : e.prox < 2 ^ 63
  pub skip : e.skip < 2 ^ 32

skip_delta_bytes-bytes : (interval : ℕ) (e : TermRecord) → e.skip < 2 ^ 32 → IsBytes (skip_delta_bytes interval e)
skip_delta_bytes-bytes interval e lt = go (leb interval e.doc_freq)
  where
    go : (b : Bool) → IsBytes (if b then spelling num e.skip else [])
    go true = vint-bytes e.skip lt
    go false = IsBytes-nil

pub term_record_bytes-bytes : (interval : ℕ) (e : TermRecord) (more : List ℕ) → IsSmallEntry e → IsBytes more → IsBytes (term_record_bytes interval e more)
term_record_bytes-bytes interval e more h rest =
    let i = skip_delta_bytes interval e ++ more in
    let g = spelling vlong e.prox ++ i in
    let f = spelling vlong e.freq ++ g in
    let d = spelling num e.doc_freq ++ f in
    let c = spelling vint e.field ++ d in
    let b = e.suffix ++ c in
    let a = spelling num (length e.suffix) ++ b in
    IsBytes-append (spelling num e.prefix) a (vint-bytes e.prefix h.prefix) (IsBytes-append (spelling num (length e.suffix)) b (vint-bytes (length e.suffix) h.count) (IsBytes-append e.suffix c h.suffix
    (IsBytes-append (spelling vint e.field) d (vint-bytes e.field h.field) (IsBytes-append (spelling num e.doc_freq) f (vint-bytes e.doc_freq h.doc_freq) (IsBytes-append (spelling vlong e.freq) g (vlong-bytes e.freq h.freq)
    (IsBytes-append (spelling vlong e.prox) i (vlong-bytes e.prox h.prox) (IsBytes-append (skip_delta_bytes interval e) more (skip_delta_bytes-bytes interval e h.skip) rest)))))))

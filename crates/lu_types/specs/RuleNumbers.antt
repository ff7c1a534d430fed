-- The numbers of all rules (format page, "How a fault is found" and the tables of each file).
use Rattle.std.specs.Prelude.{ℕ}
pub use Rattle.lu_grammar.specs.RuleNumbers.{ends, long_number, too_great, not_utf8, missing, trailing}

-- the format number of a commit is not -9
abbrev pub format : ℕ
format = 10

-- the version of a commit is negative
abbrev pub version : ℕ
version = 11

-- the name counter of a commit is negative
abbrev pub name_counter : ℕ
name_counter = 12

-- the number of segments of a commit is negative
abbrev pub seg_count : ℕ
seg_count = 13

-- the name of a segment is no segment name
abbrev pub seg_name : ℕ
seg_name = 14

-- a segment before in the commit has the name
abbrev pub seg_twice : ℕ
seg_twice = 15

-- the size of a segment is negative or over 2^31 - 2
abbrev pub seg_size : ℕ
seg_size = 16

-- the sizes of the segments so far sum to over 2^31 - 2
abbrev pub size_sum : ℕ
size_sum = 17

-- the generation of the deletions of a segment is neither -1 nor at least 1
abbrev pub del_gen : ℕ
del_gen = 18

-- the offset of a segment in a shared store is below -1
abbrev pub shared_store : ℕ
shared_store = 19

-- the flag of the single norm file is not 1
abbrev pub old_norms : ℕ
old_norms = 20

-- the number of norm generations of a segment is below -1
abbrev pub num_field : ℕ
num_field = 21

-- a norm generation of a segment is neither -1 nor at least 1
abbrev pub separate_norms : ℕ
separate_norms = 22

-- the compound flag of a segment is neither 01 nor FF
abbrev pub compound_flag : ℕ
compound_flag = 23

-- the number of deleted documents is negative, over the size of the segment, or not 0 in a segment without deletions
abbrev pub deletion_count : ℕ
deletion_count = 24

-- the flag that positions are there is neither 0 nor 1
abbrev pub prox_flag : ℕ
prox_flag = 25

-- the number of pairs of a map is negative
abbrev pub map_count : ℕ
map_count = 26

-- the checksum of a commit is not that of all bytes before it
abbrev pub checksum : ℕ
checksum = 27

-- the name of a shared store is there and is no segment name
abbrev pub store_name : ℕ
store_name = 28

-- the compound flag of a shared store is there and is neither 0 nor 1
abbrev pub store_flag : ℕ
store_flag = 29

-- the offset of an entry is below that of the entry before (below 0 for the first), or over the length of the file
abbrev pub cfs_offset : ℕ
cfs_offset = 30

-- an entry before in the compound file has the name
abbrev pub cfs_twice : ℕ
cfs_twice = 31

-- the first offset is not the place just after the last entry of the directory
abbrev pub cfs_first : ℕ
cfs_first = 32

-- the format number of a field table is not -2
abbrev pub fnm_format : ℕ
fnm_format = 35

-- a field before in the table has the name
abbrev pub field_twice : ℕ
field_twice = 36

-- bit 80 of a field is set
abbrev pub field_bits : ℕ
field_bits = 37

-- a field has bit 01 and not bit 40, in a segment without positions
abbrev pub prox_field : ℕ
prox_field = 38

-- the segment states a number of norm generations that is not the number of fields
abbrev pub norm_count : ℕ
norm_count = 39

-- the format number of `.fdx` is not 2
abbrev pub fdx_format : ℕ
fdx_format = 40

-- the first place in `.fdx` is not 4, a later one is not above the one before, or one is over 2^31 - 1
abbrev pub fdx_place : ℕ
fdx_place = 41

-- the store is shared, and its offset plus the size of the segment is above the number of its documents
abbrev pub store_range : ℕ
store_range = 42

-- the format number of `.fdt` is not 2
abbrev pub fdt_format : ℕ
fdt_format = 43

-- a document of `.fdt` does not start at its place in `.fdx`
abbrev pub fdt_place : ℕ
fdt_place = 44

-- a document is in the window, and the field table has no field with the number of a stored value of it
abbrev pub stored_field : ℕ
stored_field = 45

-- a stored value has a bit other than 01 and 02
abbrev pub stored_bits : ℕ
stored_bits = 46

-- the format number of `.tis` is not -4
abbrev pub tis_format : ℕ
tis_format = 50

-- the number of terms is negative or over 2^31 - 1
abbrev pub term_count : ℕ
term_count = 51

-- the index interval is below 1
abbrev pub index_interval : ℕ
index_interval = 52

-- the skip interval is below 2
abbrev pub skip_interval : ℕ
skip_interval = 53

-- the greatest number of skip levels is below 1
abbrev pub skip_levels : ℕ
skip_levels = 54

-- the prefix of a term is longer than the text before it
abbrev pub term_prefix : ℕ
term_prefix = 55

-- the text of a term, prefix and suffix together, is not UTF-8
abbrev pub term_utf8 : ℕ
term_utf8 = 56

-- the field table has no field with the number of a term, or one without bit 01
abbrev pub term_field : ℕ
term_field = 57

-- a term is not above the term before it
abbrev pub term_order : ℕ
term_order = 58

-- the number of documents of a term is 0 or over the size of the segment
abbrev pub doc_freq : ℕ
doc_freq = 59

-- the place of a term in `.frq` or in `.prx` is over 2^31 - 1
abbrev pub term_place : ℕ
term_place = 60

-- the format number of `.tii` is not -4
abbrev pub tii_format : ℕ
tii_format = 62

-- the number of entries of `.tii` is not the number of terms divided by the index interval, rounded up
abbrev pub tii_count : ℕ
tii_count = 63

-- an interval or the number of skip levels in `.tii` is not that of `.tis`
abbrev pub tii_intervals : ℕ
tii_intervals = 64

-- the prefix of an entry of `.tii` is longer than the text before it
abbrev pub tii_prefix : ℕ
tii_prefix = 65

-- an entry of `.tii` does not stand for the term that it belongs to
abbrev pub tii_term : ℕ
tii_term = 66

-- the place of an entry of `.tii` is not where the term that it leads to starts in `.tis`
abbrev pub tii_place : ℕ
tii_place = 67

-- the entries of a term do not start at its place in `.frq`
abbrev pub freq_start : ℕ
freq_start = 70

-- an entry that is not the first of its term has the document of the one before
abbrev pub doc_order : ℕ
doc_order = 71

-- the document of an entry is not below the size of the segment
abbrev pub doc_range : ℕ
doc_range = 72

-- a stated frequency is below 2
abbrev pub freq : ℕ
freq = 73

-- the skip data of a term do not start as far from its entries as the term says
abbrev pub skip_start : ℕ
skip_start = 74

-- the documents along a skip level do not sum to the document of the entry before the one that the datum belongs to
abbrev pub skip_doc : ℕ
skip_doc = 75

-- the lengths in `.frq` along a skip level do not sum to the length of the entries passed
abbrev pub skip_freq : ℕ
skip_freq = 76

-- a skip datum passes bytes of `.prx`, in a field without positions
abbrev pub skip_omit : ℕ
skip_omit = 77

-- a child pointer does not lead to its datum of the level below
abbrev pub skip_child : ℕ
skip_child = 78

-- a skip level above the lowest has not the stated length
abbrev pub skip_length : ℕ
skip_length = 79

-- the positions of a term do not start at its place in `.prx`
abbrev pub prox_start : ℕ
prox_start = 80

-- a position is over 2^31 - 1
abbrev pub position : ℕ
position = 81

-- the lengths in `.prx` along a skip level do not sum to the length of the positions passed
abbrev pub skip_prox : ℕ
skip_prox = 82

-- the payload length in force at a skip point is neither stated there nor the one that the skip level carries
abbrev pub skip_payload : ℕ
skip_payload = 83

-- the file of norms `.nrm` does not begin with the bytes 4E 52 4D FF
abbrev pub norm_header : ℕ
norm_header = 85

-- the size in `.del` is not that of the segment
abbrev pub del_size : ℕ
del_size = 87

-- the count in `.del` is not the number of deleted documents that the commit states
abbrev pub del_count : ℕ
del_count = 88

-- a gap of the sparse form is 0 and not the first, or leads past the last byte
abbrev pub del_gap : ℕ
del_gap = 89

-- a byte of the sparse form is 0
abbrev pub del_byte : ℕ
del_byte = 90

-- a bit at or past the size is set
abbrev pub del_past : ℕ
del_past = 91

-- the number of set bits is not the count, or for a pair, the bits set so far are more than the count
abbrev pub del_total : ℕ
del_total = 92

-- the format number of `.tvx` is not 4
abbrev pub tvx_format : ℕ
tvx_format = 95

-- the first place in `.tvd` is not 4, a later one is not above the one before, or a place is negative or over 2^31 - 1
abbrev pub tvx_place : ℕ
tvx_place = 96

-- the format number of `.tvd` is not 4
abbrev pub tvd_format : ℕ
tvd_format = 98

-- a document of `.tvd` does not start at its place in `.tvx`
abbrev pub tvd_place : ℕ
tvd_place = 99

-- a document is in the window, and the field table has no field with the number of a vector of it, or one without bit 02
abbrev pub vector_field : ℕ
vector_field = 100

-- a vector before in the document has the field
abbrev pub vector_twice : ℕ
vector_twice = 101

-- the place of a vector in `.tvf` is over 2^31 - 1
abbrev pub tvf_sum : ℕ
tvf_sum = 102

-- the format number of `.tvf` is not 4
abbrev pub tvf_format : ℕ
tvf_format = 105

-- a vector does not start at its place in `.tvf`
abbrev pub tvf_place : ℕ
tvf_place = 106

-- a vector has a bit other than 01 and 02
abbrev pub vector_bits : ℕ
vector_bits = 107

-- the prefix of a term of a vector is longer than the text before it
abbrev pub vector_prefix : ℕ
vector_prefix = 108

-- the text of a term of a vector, prefix and suffix together, is not UTF-8
abbrev pub vector_utf8 : ℕ
vector_utf8 = 109

-- a term of a vector is not above the one before it
abbrev pub vector_order : ℕ
vector_order = 110

-- the number of occurrences of a term of a vector is 0
abbrev pub vector_freq : ℕ
vector_freq = 111

-- a position of a term of a vector is over 2^31 - 1
abbrev pub vector_position : ℕ
vector_position = 112

-- the start or the end of an occurrence is over 2^31 - 1
abbrev pub vector_offset : ℕ
vector_offset = 113

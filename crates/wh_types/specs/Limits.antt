-- The limits on texts, systems, terms, certificates and values, each in one place (ours).
use Rattle.std.specs.Prelude.{ℕ, ◌^◌}

-- the greatest length of a system file and of a certificate file, in bytes
abbrev pub system_limit : ℕ
system_limit = 1048576

abbrev pub certificate_limit : ℕ
certificate_limit = 8388608

-- the greatest number of bytes that one call reads
abbrev pub most_bytes : ℕ
most_bytes = 8388608

-- the greatest length of a name, in bytes
abbrev pub longest_name : ℕ
longest_name = 64

-- numbers of variables, ranks and indices are at most this
abbrev pub greatest_number : ℕ
greatest_number = 65535

-- how deep terms and types may nest in the text of a system
abbrev pub deepest_term : ℕ
deepest_term = 400

abbrev pub deepest_type : ℕ
deepest_type = 16

-- the greatest numbers of sorts, symbols, rules and dependency pairs of a system
abbrev pub most_sorts : ℕ
most_sorts = 256

abbrev pub most_symbols : ℕ
most_symbols = 1024

abbrev pub most_rules : ℕ
most_rules = 1024

abbrev pub most_pairs : ℕ
most_pairs = 4096

-- the greatest number of meta-variables of a rule
abbrev pub most_metas : ℕ
most_metas = 32

-- the greatest number of arguments of a type in a system, of a meta-variable and of a spine
abbrev pub most_arguments : ℕ
most_arguments = 32

-- a term that fits has at most this height and this size
abbrev pub greatest_height : ℕ
greatest_height = 200

abbrev pub greatest_size : ℕ
greatest_size = 65536

-- how deep terms, types and polynomials may nest in a certificate
abbrev pub deepest_certificate_term : ℕ
deepest_certificate_term = 200

abbrev pub deepest_certificate_type : ℕ
deepest_certificate_type = 18

abbrev pub deepest_certificate_polynomial : ℕ
deepest_certificate_polynomial = 64

-- the greatest number of arguments of a type in a certificate
abbrev pub most_certificate_arguments : ℕ
most_certificate_arguments = 64

-- coefficients and amounts are below this
abbrev pub coefficient_end : ℕ
coefficient_end = 2 ^ 128

-- the greatest weight and the greatest nesting of a normal polynomial that a check evaluates
abbrev pub greatest_weight : ℕ
greatest_weight = 65536

abbrev pub deepest_value : ℕ
deepest_value = 400

-- the search for loops goes through terms of at most this size
abbrev pub greatest_searched : ℕ
greatest_searched = 2048

-- the greatest number of functions of a generated system
abbrev pub most_generated : ℕ
most_generated = 200

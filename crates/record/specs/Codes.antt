-- The numbers that stand for a kind of record, a trade type and a trade status: "Trade types: 1 TMB, 2 TMS, 3 TLB, 4
-- TLS, 5 TSL; 1 and 3 buy. Statuses: 1 PNDG, 2 SBMT, 3 CMPT." Assumes nothing.
use Rattle.std.specs.Prelude.{ℕ}

abbrev pub kind_free : ℕ
kind_free = 0

abbrev pub kind_broker : ℕ
kind_broker = 1

abbrev pub kind_customer : ℕ
kind_customer = 2

abbrev pub kind_tax_rate : ℕ
kind_tax_rate = 3

abbrev pub kind_customer_rate : ℕ
kind_customer_rate = 4

abbrev pub kind_account : ℕ
kind_account = 5

abbrev pub kind_security : ℕ
kind_security = 6

abbrev pub kind_band : ℕ
kind_band = 7

abbrev pub kind_charge : ℕ
kind_charge = 8

abbrev pub kind_trade : ℕ
kind_trade = 9

abbrev pub kind_request : ℕ
kind_request = 10

abbrev pub kind_trade_history : ℕ
kind_trade_history = 11

abbrev pub kind_lot : ℕ
kind_lot = 12

abbrev pub kind_summary : ℕ
kind_summary = 13

abbrev pub kind_lot_history : ℕ
kind_lot_history = 14

abbrev pub kind_settlement : ℕ
kind_settlement = 15

abbrev pub kind_cash : ℕ
kind_cash = 16

abbrev pub kind_permission : ℕ
kind_permission = 17

-- the last kind of a row
abbrev pub last_kind : ℕ
last_kind = kind_permission

abbrev pub kind_order : ℕ
kind_order = 33

abbrev pub kind_result : ℕ
kind_result = 34

abbrev pub kind_feed : ℕ
kind_feed = 35

abbrev pub kind_lookup : ℕ
kind_lookup = 36

abbrev pub tmb : ℕ
tmb = 1

abbrev pub tms : ℕ
tms = 2

abbrev pub tlb : ℕ
tlb = 3

abbrev pub tls : ℕ
tls = 4

abbrev pub tsl : ℕ
tsl = 5

abbrev pub pending : ℕ
pending = 1

abbrev pub submitted : ℕ
submitted = 2

abbrev pub completed : ℕ
completed = 3

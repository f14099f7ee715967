-- What uploads cost and tenants pay: sums, prices, and the blocks in use.
pub mod SumsBelow
pub mod InUse
pub mod PlainCharge
pub mod PriceLemmas
pub mod ChargeLemmas
pub mod RoomLemmas
pub mod ChargeAfterLemmas
pub mod PriceElsewhere
pub mod StoreChargeAfter

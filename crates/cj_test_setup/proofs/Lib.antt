mod Transactions

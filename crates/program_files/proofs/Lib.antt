mod Filled
